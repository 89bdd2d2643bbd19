use Rattle.ct_check.proofs.expected.Expected.after.Goals as goal

pub returns-in-These-clause-inside : goal.returns-in-These-clause-inside
returns-in-These-clause-inside c = c.after_these.ensures.inside c.args.sig.now

pub returns-in-These-clause-value : goal.returns-in-These-clause-value
returns-in-These-clause-value c = λ needs. rw c.in-These.is (c.after_these.ensures.value needs c.args.sig.now)

pub returns-in-Same-clause-inside : goal.returns-in-Same-clause-inside
returns-in-Same-clause-inside c = c.after_same.ensures.inside c.args.sig.now

pub returns-in-Same-clause-value : goal.returns-in-Same-clause-value
returns-in-Same-clause-value c = λ needs. rw c.in-Same.is (c.after_same.ensures.value needs c.args.sig.now)

pub returns-in-Choice-clause-inside : goal.returns-in-Choice-clause-inside
returns-in-Choice-clause-inside c = c.after_condition.ensures.inside c.args.sig.now

pub returns-in-Choice-clause-value : goal.returns-in-Choice-clause-value
returns-in-Choice-clause-value c = λ needs. rw c.in-Choice.is (c.after_condition.ensures.value needs c.args.sig.now)

pub returns-in-Fields-clause-value : goal.returns-in-Fields-clause-value
returns-in-Fields-clause-value c = λ needs. rw c.in-Fields.is (c.after_field.ensures.value needs)

pub returns-in-Owner-clause-value : goal.returns-in-Owner-clause-value
returns-in-Owner-clause-value c = λ needs. rw c.in-Owner.is (c.after_owner.ensures.value needs c.in-Owner.field-1)
