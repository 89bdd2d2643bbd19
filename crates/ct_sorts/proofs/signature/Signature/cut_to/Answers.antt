use Rattle.std.proofs.Common.{◌≡◌, ◌≤◌, ℕ, List, length, map, take, refl, sym, ◌∙◌, ap, ap₂, subst, subst₂}
use Rattle.std.proofs.lemmas.List.{take-map}
use Rattle.ct_sorts.specs.declared.entries.FunctionEntry.{FunctionEntry}
use Rattle.ct_sorts.specs.Consistent.{IsConsistent}
use Rattle.ct_sorts.specs.Declarations.{Declarations, Function}
use Rattle.ct_sorts.specs.Marks.{CanCut, cut}
use Rattle.ct_sorts.specs.Stored.{function_of}
use Rattle.ct_sorts.specs.Tabled.{of_tables}
use Rattle.ct_sorts.proofs.CutLemmas.{cut_consistent, cut_tabled, cut_tables_is}
use Rattle.ct_sorts.proofs.TableLemmas.{sorts_cut}
use Rattle.ct_sorts.proofs.signature.Signature.cut_to.Goals as goal

pub cut_tables-requires : goal.cut_tables-requires
cut_tables-requires c = record { standing = record { declared = c.self.invariant.tabled.declared; stand = c.self.invariant.tabled.stand } }

-- the first functions
first : (n m : ℕ) (old new : List (List ℕ × FunctionEntry)) → new ≡ take n old → n ≡ m → map function_of new ≡ take m (map function_of old)
first n m old new e same = ap (map function_of) e ∙ sym (take-map function_of n old) ∙ ap (λ (k : ℕ). take k (map function_of old)) same

some : (c : goal.After-truncate-2) → 1 ≤ c.args.mark.now.sorts
some c = subst (λ n. 1 ≤ n) c.sorts.ensures.value c.sorts.ensures.has_bool

can : (c : goal.After-truncate-2) → CanCut (of_tables c.self.inside.tables (map function_of c.self.inside.functions) (map function_of c.self.inside.definitions)) c.args.mark.now
can c = subst (λ (d : Declarations). CanCut d c.args.mark.now) (sym c.self.view_is) c.requires.can_cut

-- the functions and definitions that are left
functions_left : (c : goal.After-truncate-2) → map function_of c.truncate.new.self ≡ take c.args.mark.now.functions (map function_of c.self.inside.functions)
functions_left c = first _ _ c.self.inside.functions c.truncate.new.self c.truncate.ensures.first c.funs.ensures.value

definitions_left : (c : goal.After-truncate-2) → map function_of c.truncate-2.new.self ≡ take c.args.mark.now.definitions (map function_of c.self.inside.definitions)
definitions_left c = first _ _ c.self.inside.definitions c.truncate-2.new.self c.truncate-2.ensures.first c.defs.ensures.value

-- what is left is the cut
is_cut : (c : goal.After-truncate-2) → of_tables c.cut_tables.new.tables (map function_of c.truncate.new.self) (map function_of c.truncate-2.new.self) ≡ cut c.args.self.now c.args.mark.now
is_cut c =
    let t = c.self.inside.tables in
    let fs = map function_of c.self.inside.functions in
    let ds = map function_of c.self.inside.definitions in
    let m = c.args.mark.now in
    ap₂ (of_tables c.cut_tables.new.tables) (functions_left c) (definitions_left c)
    ∙ cut_tables_is t c.cut_tables.new.tables m fs ds c.self.invariant.consistent c.self.invariant.tabled (can c) (some c) c.cut_tables.ensures.first (sorts_cut t c.cut_tables.new.tables m c.cut_tables.ensures.first)
    ∙ ap (λ (d : Declarations). cut d m) c.self.view_is

pub invariant_of-self : goal.invariant_of-self
invariant_of-self c =
    let t = c.self.inside.tables in
    let fs = map function_of c.self.inside.functions in
    let ds = map function_of c.self.inside.definitions in
    let m = c.args.mark.now in
    let left = c.cut_tables.new.tables in
    record {
      consistent = subst₂ (λ (xs ys : List Function). IsConsistent (of_tables left xs ys)) (sym (functions_left c)) (sym (definitions_left c))
          (cut_consistent t left m fs ds c.self.invariant.consistent c.self.invariant.tabled (can c) (some c) c.cut_tables.ensures.first (sorts_cut t left m c.cut_tables.ensures.first));
      tabled = cut_tabled t left m fs ds c.self.invariant.consistent c.self.invariant.tabled (can c) (some c) c.cut_tables.ensures.first (sorts_cut t left m c.cut_tables.ensures.first) c.cut_tables.ensures.standing c.cut_tables.ensures.counted;
    }

pub returns : goal.returns
returns c = record { cut = is_cut c }
