use Rattle.ct_log.proofs.steps.step_equation.Goals as goal

pub returns-in-Refl : goal.returns-in-Refl
returns-in-Refl c = record { gives = λ clause marked. rw c.in-Refl.is c.reflexive.ensures.gives }

pub returns-in-Sym : goal.returns-in-Sym
returns-in-Sym c = record { gives = λ clause marked. rw c.in-Sym.is c.turned.ensures.gives }

pub returns-in-Trans : goal.returns-in-Trans
returns-in-Trans c = record { gives = λ clause marked. rw c.in-Trans.is c.joined.ensures.gives }

pub returns-in-Sel : goal.returns-in-Sel
returns-in-Sel c = record { gives = λ clause marked. rw c.in-Sel.is c.selected.ensures.gives }

pub returns-in-Test : goal.returns-in-Test
returns-in-Test c = record { gives = λ clause marked. rw c.in-Test.is c.tested.ensures.gives }

pub returns-in-Expand : goal.returns-in-Expand
returns-in-Expand c = record { gives = λ clause marked. rw c.in-Expand.is c.expanded.ensures.gives }

pub returns-in-EqualIn : goal.returns-in-EqualIn
returns-in-EqualIn c = record { gives = λ clause marked. rw c.in-EqualIn.is c.equated.ensures.gives }

pub returns-in-EqualOut : goal.returns-in-EqualOut
returns-in-EqualOut c = record { gives = λ clause marked. rw c.in-EqualOut.is c.equal_sides.ensures.gives }

pub returns-in-Neg : goal.returns-in-Neg
returns-in-Neg c = record { gives = λ clause marked. rw c.in-Neg.is c.negation.ensures.gives }

pub returns-in-Single : goal.returns-in-Single
returns-in-Single c = record { gives = λ clause marked. rw c.in-Single.is c.single.ensures.gives }

pub returns-in-Hyp : goal.returns-in-Hyp
returns-in-Hyp c = record { gives = λ clause marked. rw c.in-Hyp.is (c.stated.ensures.gives clause marked) }

pub returns-in-Cong : goal.returns-in-Cong
returns-in-Cong c = record { gives = λ clause marked. rw c.in-Cong.is (rw c.as_slice.ensures.value at c.congruent.ensures.gives) }
