-- From the answers of the parts of a turn to that of the turn, and of the whole.
use Rattle.std.proofs.Common.{◌≡◌, ℕ, ◌<◌, ◌≤◌, List, [], ◌∷◌, ◌++◌, length, sym, subst, arith}
use Rattle.std.specs.List.{Contains}
use Rattle.std.proofs.lemmas.List.Elements.{Contains-push}
use Rattle.std.proofs.lemmas.Option.{slice_get_within}
use Rattle.ct_sorts.specs.Declarations.{Declarations}
use Rattle.ct_terms.specs.declared.ids.TermId.{TermId}
use Rattle.ct_terms.specs.declared.ids.Lit.{Lit}
use Rattle.ct_terms.specs.Literal.{IsStripped}
use Rattle.ct_terms.specs.Terms.{Terms}
use Rattle.ct_rules.specs.Derivation.{IsHypothesis}
use Rattle.ct_congr.specs.declared.merge.Merge.{Merge}
use Rattle.ct_congr.specs.Merges.{AreConnected}
use Rattle.ct_congr.specs.State.{State, AreEqual, Continues}
use Rattle.ct_unique.specs.Partition.{IsApart}
use Rattle.ct_theory.specs.declared.turn.Turn.{Turn}
use Rattle.ct_theory.specs.declared.turn.Turn.TheVariants.{Conflict, Saturated, Merged}
use Rattle.ct_theory.specs.Consulting.{IsUnderWay, IsTurn, unequal}
use Rattle.ct_theory.proofs.TurnLemmas.{unequal-falls, unequal-less, AreEqual-stays}

-- what merges connect, and what is of one class
pub record HaveMerges (state : State) : Type 0 where
  pub long : length state.reps ≡ length state.terms
  pub connected : (x y : TermId) → AreEqual state x y → AreConnected state.merges x y
  pub equal : (x y : TermId) → x.0 < length state.terms → AreConnected state.merges x y → AreEqual state x y
  pub states : (x y : TermId) → IsHypothesis state.hypotheses x y → AreEqual state x y

-- more merges connect at least as much, and a merge connects its sides
pub record Connect : Type 0 where
  pub more : (merges added : List Merge) (x y : TermId) → AreConnected merges x y → AreConnected (merges ++ added) x y
  pub sides : (merges : List Merge) (m : Merge) → Contains merges m → AreConnected merges m.left m.right

-- the terms of the hypotheses are no negations
abbrev pub AreAllStripped : State → Type 0
AreAllStripped state = (l : Lit) → Contains state.hypotheses l → IsStripped state.terms l.term

pub AreAllStripped-continues : (old new : State) → Continues new old → AreAllStripped old → AreAllStripped new
AreAllStripped-continues old new later stripped l h =
    subst (λ (t : Terms). IsStripped t l.term) (sym later.terms) (stripped l (subst (λ (ls : List Lit). Contains ls l) later.hypotheses h))

pub AreAllStripped-under : (d : Declarations) (terms : Terms) (literals : List Lit) (state : State) → IsUnderWay d terms literals state → ((l : Lit) → Contains literals l → IsStripped terms l.term) → AreAllStripped state
AreAllStripped-under d terms literals state under stripped l h =
    subst (λ (t : Terms). IsStripped t l.term) (sym under.terms_are) (stripped l (subst (λ (ls : List Lit). Contains ls l) under.hypotheses h))

-- a turn since classes of no fewer pairs
pub IsTurn-since : (d : Declarations) (terms : Terms) (literals : List Lit) (old mid new : State) (t : Turn) → unequal mid ≤ unequal old → IsTurn d terms literals mid new t → IsTurn d terms literals old new t
IsTurn-since d terms literals old mid new (Conflict c) falls h = h
IsTurn-since d terms literals old mid new (Saturated order) falls h = h
IsTurn-since d terms literals old mid new Merged falls h = omega (arith, h, falls)

-- closing makes no pair of two classes
pub unequal-continues : (old new : State) → Connect → HaveMerges old → HaveMerges new → Continues new old → unequal new ≤ unequal old
unequal-continues old new connect before after later =
    unequal-falls old new later.terms (AreEqual-stays old new later.more before.connected after.equal connect.more before.long later.terms later.merges)

-- making two classes one leaves fewer pairs of two
pub unequal-merged : (old new : State) (blocks : List ℕ) (m : Merge) → Connect → HaveMerges old → HaveMerges new → IsApart old blocks m.left m.right → new.terms ≡ old.terms → new.merges ≡ old.merges ++ m ∷ [] → unequal new < unequal old
unequal-merged old new blocks m connect before after apart terms_are merges =
    let in_left : m.left.0 < length old.terms = slice_get_within old.terms m.left.0 _ apart.left.2.1 in
    let in_right : m.right.0 < length old.terms = slice_get_within old.terms m.right.0 _ apart.right.2.1 in
    let in_new : m.left.0 < length new.terms = subst (λ (t : Terms). m.left.0 < length t) (sym terms_are) in_left in
    let there : Contains new.merges m = subst (λ (ms : List Merge). Contains ms m) (sym merges) (Contains-push old.merges m) in
    let one : AreEqual new m.left m.right = after.equal m.left m.right in_new (connect.sides new.merges m there) in
    unequal-less old new terms_are (AreEqual-stays old new (m ∷ []) before.connected after.equal connect.more before.long terms_are merges) m.left m.right in_left in_right apart.apart one
