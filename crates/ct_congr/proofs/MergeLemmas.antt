-- Chains of merges, and what one more justified merge keeps.
use Rattle.std.proofs.Common.{◌≡◌, ◌<◌, ◌⊎◌, List, [], ◌∷◌, ◌++◌, length, take, Option, refl, sym, subst, ◌∙◌, inl, inr, arith}
use Rattle.std.specs.List.{Contains}
use Rattle.std.proofs.lemmas.List.{take-append-le, take_at}
use Rattle.std.proofs.lemmas.List.Elements.{Contains-append_left, Contains-push, Contains-push_cases}
use Rattle.std.proofs.lemmas.Option.{slice_get_within}
use Rattle.ct_lemmas.proofs.Lists.{slice_get-push_cases}
use Rattle.ct_lemmas.proofs.Pairs.{AllZip-weaker}
use Rattle.ct_sorts.specs.Declarations.{Declarations}
use Rattle.ct_terms.specs.declared.ids.TermId.{TermId}
use Rattle.ct_terms.specs.declared.ids.Lit.{Lit}
use Rattle.ct_terms.specs.Children.{core_children}
use Rattle.ct_terms.specs.Terms.{Terms}
use Rattle.ct_rules.specs.declared.equation.Equation.{Equation}
use Rattle.ct_rules.specs.Rules.{Equations, Follows, by_congruence, by_injection, by_selection, by_testing, by_expansion, by_equation_in, by_equation_out, by_negation, by_singleton}
use Rattle.ct_rules.specs.Derivation.{IsHypothesis, Derives}
use Rattle.ct_rules.specs.Uniqueness.{AreMatched, AreAllMatched}
use Rattle.ct_congr.specs.declared.merge.Reason.{Reason}
use Rattle.ct_congr.specs.declared.merge.Reason.TheVariants.{Hyp, Cong, Inject, Sel, Test, Expand, EqualIn, EqualOut, Neg, Single, Unique}
use Rattle.ct_congr.specs.declared.merge.Merge.{Merge}
use Rattle.ct_congr.specs.Partition.{InOneClass}
use Rattle.ct_congr.specs.Reasons.{IsReason, IsJustified, IsRule}
use Rattle.ct_congr.specs.Merges.{IsLink, IsChain, AreConnected, AreJustified}
use Rattle.ct_congr.specs.Sound.{AreCons, IsJoined, IsSound}
use Rattle.ct_congr.proofs.ClassLemmas.{InOneClass-refl, InOneClass-sym, InOneClass-trans, InOneClass-inside}

-- ---- chains

IsChain-append : (merges : List Merge) (x y z : TermId) (us vs : List TermId) → IsChain merges x us y → IsChain merges y vs z → IsChain merges x (us ++ vs) z
IsChain-append merges x y z [] vs p q = subst (λ (t : TermId). IsChain merges t vs z) (sym p) q
IsChain-append merges x y z (u ∷ us) vs p q = (p.0, IsChain-append merges u y z us vs p.1 q)

pub AreConnected-trans : (merges : List Merge) (x y z : TermId) → AreConnected merges x y → AreConnected merges y z → AreConnected merges x z
AreConnected-trans merges x y z p q = (p.0 ++ q.0, IsChain-append merges x y z p.0 q.0 p.1 q.1)

pub AreConnected-link : (merges : List Merge) (m : Merge) → Contains merges m → AreConnected merges m.left m.right
AreConnected-link merges m has = (m.right ∷ [], ((m, has, inl (refl, refl)), refl))

IsLink-sym : (merges : List Merge) (x y : TermId) → IsLink merges x y → IsLink merges y x
IsLink-sym merges x y h = (h.0, h.1, elim h.2 [ inl p ↦ inr p | inr p ↦ inl p ])

AreConnected-back : (merges : List Merge) (x : TermId) (zs : List TermId) (y : TermId) → IsChain merges x zs y → AreConnected merges y x
AreConnected-back merges x [] y h = ([], sym h)
AreConnected-back merges x (z ∷ zs) y h = AreConnected-trans merges y z x (AreConnected-back merges z zs y h.1) (x ∷ [], (IsLink-sym merges x z h.0, refl))

pub AreConnected-sym : (merges : List Merge) (x y : TermId) → AreConnected merges x y → AreConnected merges y x
AreConnected-sym merges x y h = AreConnected-back merges x h.0 y h.1

IsChain-more : (merges more : List Merge) (x : TermId) (zs : List TermId) (y : TermId) → IsChain merges x zs y → IsChain (merges ++ more) x zs y
IsChain-more merges more x [] y h = h
IsChain-more merges more x (z ∷ zs) y h = ((h.0.0, Contains-append_left merges more h.0.0 h.0.1, h.0.2), IsChain-more merges more z zs y h.1)

pub AreConnected-more : (merges more : List Merge) (x y : TermId) → AreConnected merges x y → AreConnected (merges ++ more) x y
AreConnected-more merges more x y h = (h.0, IsChain-more merges more x h.0 y h.1)

-- classes that hold all merges hold what is connected
InOneClass-chain : (reps : List TermId) (merges : List Merge) → ((m : Merge) → Contains merges m → InOneClass reps m.left m.right) → (x : TermId) (zs : List TermId) (y : TermId) → x.0 < length reps → IsChain merges x zs y → InOneClass reps x y
InOneClass-chain reps merges held x [] y inside h = subst (InOneClass reps x) h (InOneClass-refl reps x inside)
InOneClass-chain reps merges held x (z ∷ zs) y inside h =
    let m = h.0.0 in
    let one = held m h.0.1 in
    let step : InOneClass reps x z = elim h.0.2 [
      | inl p ↦ subst (λ (t : TermId). InOneClass reps t z) p.0 (subst (InOneClass reps m.left) p.1 one)
      | inr p ↦ InOneClass-sym reps z x (subst (λ (t : TermId). InOneClass reps t x) p.0 (subst (InOneClass reps m.left) p.1 one))
    ] in
    InOneClass-trans reps x z y step (InOneClass-chain reps merges held z zs y (InOneClass-inside reps x z step) h.1)

pub InOneClass-connected : (reps : List TermId) (merges : List Merge) → ((m : Merge) → Contains merges m → InOneClass reps m.left m.right) → (x y : TermId) → x.0 < length reps → AreConnected merges x y → InOneClass reps x y
InOneClass-connected reps merges held x y inside h = InOneClass-chain reps merges held x h.0 y inside h.1

-- ---- reasons

module _ (d : Declarations) (terms : Terms) (hyps : List Lit) (known wider : Equations) (each : (x y : TermId) → known x y → wider x y) where
  AreAllMatched-wider : (pairs : List Equation) → AreAllMatched terms known pairs → AreAllMatched terms wider pairs
  AreAllMatched-wider pairs h pair listed =
      let r = h pair listed in
      record {
        ctor = r.ctor;
        xs = r.xs;
        ys = r.ys;
        left_stands = r.left_stands;
        right_stands = r.right_stands;
        arguments = AllZip-weaker (AreMatched known pairs) (AreMatched wider pairs) (λ x y m. elim m [
          | inl k ↦ inl (each x y k)
          | inr k ↦ inr (k.0, k.1, each x k.0.left k.2, each k.0.right y k.3)
        ]) r.xs r.ys r.arguments;
      }

  -- a reason stays one with more equations known
  pub IsReason-wider : (x y : TermId) (why : Reason) → IsReason d terms hyps known x y why → IsReason d terms hyps wider x y why
  IsReason-wider x y (Hyp l) h = h
  IsReason-wider x y (Cong t u) h = (
    h.0,
    h.1,
    record {
      left = h.2.left;
      right = h.2.right;
      left_stands = h.2.left_stands;
      right_stands = h.2.right_stands;
      head = h.2.head;
      arguments = AllZip-weaker known wider each (core_children h.2.left) (core_children h.2.right) h.2.arguments;
    },
  )
  IsReason-wider x y (Inject a b k) h = (
    record {
      left = h.0.left;
      right = h.0.right;
      ctor = h.0.ctor;
      xs = h.0.xs;
      ys = h.0.ys;
      place = h.0.place;
      equal = each h.0.left h.0.right h.0.equal;
      left_stands = h.0.left_stands;
      right_stands = h.0.right_stands;
      left_at = h.0.left_at;
      right_at = h.0.right_at;
    },
    h.1,
    h.2,
    h.3,
  )
  IsReason-wider x y (Sel t c) h = (
    h.0,
    record {
      sel = h.1.sel;
      selector = h.1.selector;
      argument = h.1.argument;
      con = h.1.con;
      args = h.1.args;
      stands = h.1.stands;
      declared = h.1.declared;
      equal = each h.1.argument h.1.con h.1.equal;
      con_stands = h.1.con_stands;
      at = h.1.at;
    },
    h.2,
  )
  IsReason-wider x y (Test t c) h = (
    h.0,
    record {
      tested = h.1.tested;
      argument = h.1.argument;
      con = h.1.con;
      ctor = h.1.ctor;
      args = h.1.args;
      stands = h.1.stands;
      equal = each h.1.argument h.1.con h.1.equal;
      con_stands = h.1.con_stands;
      answer = h.1.answer;
    },
    h.2,
  )
  IsReason-wider x y (Expand t c) h = (
    h.0,
    record {
      test = h.1.test;
      id = h.1.id;
      ctor = h.1.ctor;
      args = h.1.args;
      declared = h.1.declared;
      holds = each h.1.test (record { 0 = 0 }) h.1.holds;
      test_stands = h.1.test_stands;
      con_stands = h.1.con_stands;
      fields = h.1.fields;
    },
    h.2,
  )
  IsReason-wider x y (EqualIn t) h = (h.0, record { left = h.1.left; right = h.1.right; stands = h.1.stands; equal = each h.1.left h.1.right h.1.equal; answer = h.1.answer })
  IsReason-wider x y (EqualOut t) h = (record { term = h.0.term; stands = h.0.stands; holds = each h.0.term (record { 0 = 0 }) h.0.holds }, h.1)
  IsReason-wider x y (Neg t) h = (
    h.0,
    record {
      argument = h.1.argument;
      stands = h.1.stands;
      answer = elim h.1.answer [
        | inl p ↦ inl (each h.1.argument (record { 0 = 0 }) p.0, p.1)
        | inr p ↦ inr (each h.1.argument (record { 0 = 1 }) p.0, p.1)
      ];
    },
  )
  IsReason-wider x y Single h = h
  IsReason-wider x y (Unique pairs) h = (h.0, AreAllMatched-wider pairs h.1)

-- a reason other than uniqueness is a hypothesis or a rule
pub IsReason-follows : (d : Declarations) (terms : Terms) (hyps : List Lit) (known : Equations) (x y : TermId) (why : Reason) → IsRule why → IsReason d terms hyps known x y why → IsHypothesis hyps x y ⊎ Follows d terms known x y
IsReason-follows d terms hyps known x y (Hyp l) rule h = inl (l, h.0, h.1)
IsReason-follows d terms hyps known x y (Cong t u) rule h = inr (by_congruence h.2)
IsReason-follows d terms hyps known x y (Inject a b k) rule h = inr (by_injection h.0)
IsReason-follows d terms hyps known x y (Sel t c) rule h = inr (by_selection h.1)
IsReason-follows d terms hyps known x y (Test t c) rule h = inr (by_testing h.1)
IsReason-follows d terms hyps known x y (Expand t c) rule h = inr (by_expansion h.1)
IsReason-follows d terms hyps known x y (EqualIn t) rule h = inr (by_equation_in h.1)
IsReason-follows d terms hyps known x y (EqualOut t) rule h = inr (by_equation_out h.0)
IsReason-follows d terms hyps known x y (Neg t) rule h = inr (by_negation h.1)
IsReason-follows d terms hyps known x y Single rule h = inr (by_singleton h)
IsReason-follows d terms hyps known x y (Unique pairs) rule h = absurd rule

-- ---- one merge more

module _ (d : Declarations) (terms : Terms) (hyps : List Lit) (given : List Equation) (reps new : List TermId) (cons more_cons : List (Option TermId)) (merges : List Merge) (m : Merge) (old : IsSound d terms hyps given reps cons merges) (joined : IsJoined reps new m.left m.right) where
  connected_more : (x y : TermId) → InOneClass new x y → AreConnected (merges ++ m ∷ []) x y
  connected_more x y h =
      let more = merges ++ m ∷ [] in
      let was : (u v : TermId) → InOneClass reps u v → AreConnected (merges ++ m ∷ []) u v = λ u v e. AreConnected-more merges (m ∷ []) u v (old.connected u v e) in
      let link = AreConnected-link more m (Contains-push merges m) in
      elim (joined.cases x y h) [
        | inl p ↦ was x y p
        | inr p ↦ elim p [
          | inl q ↦ AreConnected-trans more x m.left y (was x m.left q.0) (AreConnected-trans more m.left m.right y link (was m.right y q.1))
          | inr q ↦ AreConnected-trans more x m.right y (was x m.right q.0) (AreConnected-trans more m.right m.left y (AreConnected-sym more m.left m.right link) (was m.left y q.1))
        ]
      ]

  justified_more : IsJustified d terms hyps (InOneClass reps) m → AreJustified d terms hyps (merges ++ m ∷ [])
  justified_more why k n at = elim (slice_get-push_cases merges m n k at) [
    | inl before ↦
        let within : k < length merges = slice_get_within merges k n before in
        let first = take-append-le k merges (m ∷ []) (omega (arith, within)) in
        rw first (old.justified k n before)
    | inr last ↦
        let all : take k (merges ++ m ∷ []) ≡ merges = take_at merges (m ∷ []) k (sym last.0) in
        let here : IsJustified d terms hyps (AreConnected merges) m = IsReason-wider d terms hyps (InOneClass reps) (AreConnected merges) old.connected m.left m.right m.why why in
        rw all (subst (IsJustified d terms hyps (AreConnected merges)) last.1 here)
  ]

  pub IsSound-more : IsJustified d terms hyps (InOneClass reps) m → Derives d terms hyps given m.left m.right → length more_cons ≡ length cons → AreCons terms new more_cons → IsSound d terms hyps given new more_cons (merges ++ m ∷ [])
  IsSound-more why derives cons_long cons_are = record {
    long = joined.long ∙ old.long;
    cons_long = cons_long ∙ old.cons_long;
    stored = cons_are;
    connected = connected_more;
    held = λ n has. elim (Contains-push_cases merges m n has) [
      | inl before ↦ joined.keeps n.left n.right (old.held n before)
      | inr last ↦ subst (λ (k : Merge). InOneClass new k.left k.right) last joined.joins
    ];
    justified = justified_more why;
    derives = λ n has. elim (Contains-push_cases merges m n has) [
      | inl before ↦ old.derives n before
      | inr last ↦ subst (λ (k : Merge). Derives d terms hyps given k.left k.right) last derives
    ];
  }
