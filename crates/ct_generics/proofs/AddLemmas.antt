-- Adding sorts, one after the other and task by task.
use Rattle.std.proofs.Common.{◌≡◌, ◌↔◌, ◌⊎◌, List, [], ◌∷◌, ◌++◌, map, refl, sym, ap, subst, ◌∙◌, inl, inr}
use Rattle.std.proofs.lemmas.List.{append_assoc, append-nil}
use Rattle.ct_generics.specs.Expression.{Expression, applied, args_of}
use Rattle.ct_generics.specs.Declarations.{Head}
use Rattle.ct_generics.specs.Add.{Adds, none, there, given, made, IsAmong, field_sorts}
use Rattle.ct_generics.specs.Tasks.{Task, add, arguments, make, Does, Completes, DoTheSame}

-- the second list begins with the first
abbrev pub Begins : List Expression → List Expression → Type 0
Begins before after = (more : List Expression) × (after ≡ before ++ more)

pub Begins-same : (a : List Expression) → Begins a a
Begins-same a = ([], sym (append-nil a))

pub Begins-trans : (a b c : List Expression) → Begins a b → Begins b c → Begins a c
Begins-trans a b c first second = (first.0 ++ second.0, second.1 ∙ ap (λ (xs : List Expression). xs ++ second.0) first.1 ∙ append_assoc a first.0 second.0)

pub Begins-push : (a b : List Expression) (e : Expression) → Begins (a ++ e ∷ []) b → Begins a b
Begins-push a b e begins = Begins-trans a (a ++ e ∷ []) b (e ∷ [], refl) begins

module _ (heads : List Head) where
  -- nothing is taken away
  pub Adds-begins : (es before after : List Expression) → Adds heads es before after → Begins before after
  Adds-begins _ _ _ (none sorts) = Begins-same sorts
  Adds-begins _ _ _ (there e rest s t is later) = Adds-begins rest s t later
  Adds-begins _ _ _ (given e rest s m t fresh args is later) = Begins-trans s m t (Adds-begins (args_of e) s m args) (Adds-begins rest m t later)
  Adds-begins _ _ _ (made e rest s m n t fresh args absent fields later) =
      Begins-trans s m t (Adds-begins (args_of e) s m args) (Begins-trans m n t (Begins-push m n e (Adds-begins (field_sorts heads e) (m ++ e ∷ []) n fields)) (Adds-begins rest n t later))

  -- one sort is added
  abbrev pub AddsOne : Expression → List Expression → List Expression → Type 0
  AddsOne e before after = (IsAmong before e × (after ≡ before)) ⊎ ((IsAmong before e → ⊥) × ((middle : List Expression) × Adds heads (args_of e) before middle × Does heads (make e) middle after))

  abbrev pub Cases : List Expression → List Expression → List Expression → Type 0
  Cases [] before after = after ≡ before
  Cases (e ∷ rest) before after = (middle : List Expression) × AddsOne e before middle × Adds heads rest middle after

  pub cases : (es before after : List Expression) → Adds heads es before after → Cases es before after
  cases _ _ _ (none sorts) = refl
  cases _ _ _ (there e rest s t is later) = (s, inl (is, refl), later)
  cases _ _ _ (given e rest s m t fresh args is later) = (m, inr (fresh, (m, args, inl (is, refl))), later)
  cases _ _ _ (made e rest s m n t fresh args absent fields later) = (n, inr (fresh, (m, args, inr (absent, fields))), later)

  from_cases : (e : Expression) (rest before middle after : List Expression) → AddsOne e before middle → Adds heads rest middle after → Adds heads (e ∷ rest) before after
  from_cases e rest s n t one later =
      elim one [
        | inl is ↦ there e rest s t is.0 (subst (λ (x : List Expression). Adds heads rest x t) is.1 later)
        | inr new ↦
            let m = new.1.0 in
            elim new.1.2 [
              | inl is ↦ given e rest s m t new.0 new.1.1 is.0 (subst (λ (x : List Expression). Adds heads rest x t) is.1 later)
              | inr absent ↦ made e rest s m n t new.0 new.1.1 absent.0 absent.1 later
            ]
      ]

  -- with nothing to add all stays
  Adds-none : (before after : List Expression) → Adds heads [] before after → after ≡ before
  Adds-none before after adds = cases [] before after adds

  -- the first, and then the others
  Adds-one : (e : Expression) (before after : List Expression) → Adds heads (e ∷ []) before after ↔ AddsOne e before after
  Adds-one e before after = (
    λ h. let parts = cases (e ∷ []) before after h in subst (AddsOne e before) (sym (Adds-none parts.0 after parts.2)) parts.1,
    λ h. from_cases e [] before after after h (none after),
  )

  Adds-split : (e : Expression) (es before after : List Expression) → Adds heads (e ∷ es) before after → (middle : List Expression) × Adds heads (e ∷ []) before middle × Adds heads es middle after
  Adds-split e es before after h = let parts = cases (e ∷ es) before after h in (parts.0, (Adds-one e before parts.0).1 parts.1, parts.2)

  Adds-join : (e : Expression) (es before middle after : List Expression) → Adds heads (e ∷ []) before middle → Adds heads es middle after → Adds heads (e ∷ es) before after
  Adds-join e es before middle after first later = from_cases e es before middle after ((Adds-one e before middle).0 first) later

  -- those of one list, and then those of another
  Adds-append : (xs ys before after : List Expression) → Adds heads (xs ++ ys) before after ↔ ((middle : List Expression) × Adds heads xs before middle × Adds heads ys middle after)
  Adds-append [] ys before after = (λ h. (before, none before, h), λ parts. subst (λ (s : List Expression). Adds heads ys s after) (Adds-none before parts.0 parts.1) parts.2)
  Adds-append (x ∷ xs) ys before after = (
    λ h. let first = Adds-split x (xs ++ ys) before after h in let rest = (Adds-append xs ys first.0 after).0 first.2 in (rest.0, Adds-join x xs before first.0 rest.0 first.1 rest.1, rest.2),
    λ parts. let first = Adds-split x xs before parts.0 parts.1 in Adds-join x (xs ++ ys) before first.0 after first.1 ((Adds-append xs ys first.0 after).1 (parts.0, first.2, parts.2)),
  )

  -- one that is there changes nothing
  Adds-there : (e : Expression) (before after : List Expression) → IsAmong before e → Adds heads (e ∷ []) before after → after ≡ before
  Adds-there e before after is h = elim ((Adds-one e before after).0 h) [ inl here ↦ here.1 | inr new ↦ absurd (new.0 is) ]

  -- of one that is not there the arguments come first
  Adds-new : (e : Expression) (before after : List Expression) → (IsAmong before e → ⊥) → Adds heads (e ∷ []) before after ↔ ((middle : List Expression) × Adds heads (args_of e) before middle × Does heads (make e) middle after)
  Adds-new e before after absent = (
    λ h. elim ((Adds-one e before after).0 h) [ inl here ↦ absurd (absent here.0) | inr new ↦ new.1 ],
    λ h. (Adds-one e before after).1 (inr (absent, h)),
  )

  -- ---- task by task
  Does-begins : (task : Task) (before after : List Expression) → Does heads task before after → Begins before after
  Does-begins (add e) before after h = Adds-begins (e ∷ []) before after h
  Does-begins (arguments e) before after h = Adds-begins (args_of e) before after h
  Does-begins (make e) before after h =
      elim h [
        | inl is ↦ ([], is.1 ∙ sym (append-nil before))
        | inr new ↦ Begins-push before after e (Adds-begins (field_sorts heads e) (before ++ e ∷ []) after new.1)
      ]

  pub Completes-begins : (tasks : List Task) (before after : List Expression) → Completes heads tasks before after → Begins before after
  Completes-begins [] before after h = ([], h ∙ sym (append-nil before))
  Completes-begins (task ∷ tasks) before after h = Begins-trans before h.0 after (Does-begins task before h.0 h.1) (Completes-begins tasks h.0 after h.2)

  pub DoTheSame-same : (tasks : List Task) (sorts : List Expression) → DoTheSame heads tasks sorts tasks sorts
  DoTheSame-same tasks sorts after = (λ h. h, λ h. h)

  pub DoTheSame-trans : (first second third : List Task) (a b c : List Expression) → DoTheSame heads first a second b → DoTheSame heads second b third c → DoTheSame heads first a third c
  DoTheSame-trans first second third a b c left right after = (λ h. (right after).0 ((left after).0 h), λ h. (left after).1 ((right after).1 h))

  -- a sort that is there
  pub step-there : (e : Expression) (tasks : List Task) (sorts : List Expression) → IsAmong sorts e → DoTheSame heads (add e ∷ tasks) sorts tasks sorts
  step-there e tasks sorts is after = (
    λ h. subst (λ (s : List Expression). Completes heads tasks s after) (Adds-there e sorts h.0 is h.1) h.2,
    λ h. (sorts, there e [] sorts sorts is (none sorts), h),
  )

  -- one that is not: its arguments first
  pub step-new : (e : Expression) (tasks : List Task) (sorts : List Expression) → (IsAmong sorts e → ⊥) → DoTheSame heads (add e ∷ tasks) sorts (arguments e ∷ make e ∷ tasks) sorts
  step-new e tasks sorts absent after = (
    λ h. let parts = (Adds-new e sorts h.0 absent).0 h.1 in (parts.0, parts.1, (h.0, parts.2, h.2)),
    λ h. (h.2.0, (Adds-new e sorts h.2.0 absent).1 (h.0, h.1, h.2.1), h.2.2),
  )

  -- no arguments
  pub step-no_arguments : (e : Expression) (tasks : List Task) (sorts : List Expression) → args_of e ≡ [] → DoTheSame heads (arguments e ∷ tasks) sorts tasks sorts
  step-no_arguments e tasks sorts bare after = (
    λ h. subst (λ (s : List Expression). Completes heads tasks s after) (Adds-none sorts h.0 (subst (λ (es : List Expression). Adds heads es sorts h.0) bare h.1)) h.2,
    λ h. (sorts, subst (λ (es : List Expression). Adds heads es sorts sorts) (sym bare) (none sorts), h),
  )

  -- all arguments but the last, and then this
  pub step-arguments : (f a : Expression) (tasks : List Task) (sorts : List Expression) → DoTheSame heads (arguments (applied f a) ∷ tasks) sorts (arguments f ∷ add a ∷ tasks) sorts
  step-arguments f a tasks sorts after = (
    λ h. let parts = (Adds-append (args_of f) (a ∷ []) sorts h.0).0 h.1 in (parts.0, parts.1, (h.0, parts.2, h.2)),
    λ h. (h.2.0, (Adds-append (args_of f) (a ∷ []) sorts h.2.0).1 (h.0, h.1, h.2.1), h.2.2),
  )

  -- one that came to be there
  pub step-given : (e : Expression) (tasks : List Task) (sorts : List Expression) → IsAmong sorts e → DoTheSame heads (make e ∷ tasks) sorts tasks sorts
  step-given e tasks sorts is after = (
    λ h. elim h.1 [ inl here ↦ subst (λ (s : List Expression). Completes heads tasks s after) here.1 h.2 | inr new ↦ absurd (new.0 is) ],
    λ h. (sorts, inl (is, refl), h),
  )

  -- sorts one after the other
  pub Completes-adds : (es : List Expression) (tasks : List Task) (before after : List Expression) → Completes heads (map add es ++ tasks) before after ↔ ((middle : List Expression) × Adds heads es before middle × Completes heads tasks middle after)
  Completes-adds [] tasks before after = (λ h. (before, none before, h), λ parts. subst (λ (s : List Expression). Completes heads tasks s after) (Adds-none before parts.0 parts.1) parts.2)
  Completes-adds (e ∷ es) tasks before after = (
    λ h. let rest = (Completes-adds es tasks h.0 after).0 h.2 in (rest.0, Adds-join e es before h.0 rest.0 h.1 rest.1, rest.2),
    λ parts. let first = Adds-split e es before parts.0 parts.1 in (first.0, first.1, (Completes-adds es tasks first.0 after).1 (parts.0, first.2, parts.2)),
  )

  -- one that is made: the sorts of its fields next
  pub step-made : (e : Expression) (tasks : List Task) (sorts : List Expression) → (IsAmong sorts e → ⊥) → DoTheSame heads (make e ∷ tasks) sorts (map add (field_sorts heads e) ++ tasks) (sorts ++ e ∷ [])
  step-made e tasks sorts absent after =
      let all = Completes-adds (field_sorts heads e) tasks (sorts ++ e ∷ []) after in (
        λ h. elim h.1 [ inl here ↦ absurd (absent here.0) | inr new ↦ all.1 (h.0, new.1, h.2) ],
        λ h. let parts = all.0 h in (parts.0, inr (absent, parts.1), parts.2),
      )

  -- with the sorts that are to be added as the only tasks, they are completed as they are added
  pub tasks-begin : (es before after : List Expression) → Completes heads (map add es ++ []) before after ↔ Adds heads es before after
  tasks-begin es before after =
      let all = Completes-adds es [] before after in (
        λ h. let parts = all.0 h in subst (Adds heads es before) (sym parts.2) parts.1,
        λ h. all.1 (after, h, refl),
      )
