-- Sorts that are there are there where more is declared.
use Rattle.std.proofs.Common.{◌≡◌, ◌≤◌, ℕ, Bool, true, false, ◌==◌, if◌then◌else◌, List, [], ◌∷◌, ◌++◌, All, refl, ap, arith}
use Rattle.std.proofs.lemmas.Bool.Decides.{Decides-eqb}
use Rattle.std.proofs.lemmas.List.Elements.{All-push}
use Rattle.ct_sorts.specs.declared.ids.SortId.{SortId}
use Rattle.ct_generics.specs.declared.kind.Kind.TheVariants.{Free as OfFree}
use Rattle.ct_generics.specs.declared.decl.SortDecl.{SortDecl}
use Rattle.ct_generics.specs.Declarations.{Head}
use Rattle.ct_sorts.specs.declared.ids.Kind.{Kind}
use Rattle.ct_sorts.specs.declared.ids.Kind.TheVariants as kind
use Rattle.ct_sorts.specs.declared.ids.Declared.{Declared as Given}
use Rattle.ct_sorts.specs.declared.spelling.Spelling.{Spelling}
use Rattle.ct_sorts.specs.Block.{IsWithBlock}
use Rattle.ct_sorts.specs.Declarations.{Declarations, Sort, IsSort, with_sort, with_head}
use Rattle.ct_sorts.specs.Grown.{Extends}
use Rattle.ct_command.specs.declared.command.Family.{Family}
use Rattle.ct_command.specs.Command.{SortHead, Body}
use Rattle.ct_stack.specs.Elaborations.{kind_of, with_free, IsWithTypes}
use Rattle.ct_stack.proofs.NeededLemmas.{inside_further}

pub all_inside : (later d : Declarations) (sorts : List SortId) → Extends later d → All (IsSort d) sorts → All (IsSort later) sorts
all_inside later d sorts grown all = λ k e within. inside_further later d _ grown (all k e within)

-- and one more
pub one_more_inside : (later d : Declarations) (sorts : List SortId) (s : SortId) → Extends later d → All (IsSort d) sorts → IsSort later s → All (IsSort later) (sorts ++ s ∷ [])
one_more_inside later d sorts s grown all is = All-push (IsSort later) sorts s (all_inside later d sorts grown all) is

-- an uninterpreted sort more, with arguments or without
module _ (more_sorts : (d : Declarations) (s : Sort) → Extends (with_sort d s) d) (more_heads : (d : Declarations) (h : Head) (ctors : List Spelling) → Extends (with_head d h ctors) d) (d : Declarations) (name : List ℕ) (params : ℕ) where
  abbrev plain : Declarations
  plain = with_sort d (record { name = name; kind = kind.Free; ctors = [] })

  abbrev applied : Declarations
  applied = with_head d (record { name = name; kind = OfFree; params = params; ctors = [] }) []

  pub free_extends : Extends (with_free d name params) d
  free_extends = by (params == 0)
    where
      by : (b : Bool) → Extends (if b then plain else applied) d
      by true = more_sorts d (record { name = name; kind = kind.Free; ctors = [] })
      by false = more_heads d (record { name = name; kind = OfFree; params = params; ctors = [] }) []

pub free_same : (d : Declarations) (name : List ℕ) (params : ℕ) → (with_free d name params).definitions ≡ d.definitions
free_same d name params = by (params == 0)
  where
    by : (b : Bool) → (if b then with_sort d (record { name = name; kind = kind.Free; ctors = [] }) else with_head d (record { name = name; kind = OfFree; params = params; ctors = [] }) []).definitions ≡ d.definitions
    by true = refl
    by false = refl

-- a block more
pub types_extends : ((d later : Declarations) (kind : Kind) (decls : List SortDecl) (given : List Given) → IsWithBlock d kind decls given later → Extends later d) → (d later : Declarations) (family : Family) (heads : List SortHead) (bodies : List Body) → IsWithTypes d family heads bodies later → Extends later d
types_extends more d later family heads bodies (block, given, decls, with_it) = more d later (kind_of family) block given with_it

pub types_same : (d later : Declarations) (family : Family) (heads : List SortHead) (bodies : List Body) → IsWithTypes d family heads bodies later → later.definitions ≡ d.definitions
types_same d later family heads bodies (block, given, decls, with_it) = ap (λ (n : Declarations). n.definitions) with_it.4

pub applied_is : (d : Declarations) (name : List ℕ) (params : ℕ) → 1 ≤ params → with_free d name params ≡ with_head d (record { name = name; kind = OfFree; params = params; ctors = [] }) []
applied_is d name params some = by (params == 0) refl
  where
    by : (b : Bool) → (params == 0) ≡ b → (if b then with_sort d (record { name = name; kind = kind.Free; ctors = [] }) else with_head d (record { name = name; kind = OfFree; params = params; ctors = [] }) []) ≡ with_head d (record { name = name; kind = OfFree; params = params; ctors = [] }) []
    by true e = absurd (omega (arith, some, (Decides-eqb params 0).0 e))
    by false e = refl
