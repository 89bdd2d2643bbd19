-- Declarations that extend others, and what is there in them.
use Rattle.std.proofs.Common.{List, [], ◌∷◌, ◌++◌, ◌∙◌, ap}
use Rattle.std.proofs.lemmas.List.{append_assoc}
use Rattle.ct_sorts.specs.declared.ids.SortId.{SortId}
use Rattle.ct_sorts.specs.Declarations.{Declarations, IsSort}
use Rattle.ct_sorts.specs.Grown.{Begins, Extends}
use Rattle.ct_names.specs.Variables.{Variable, ScopeIn}
use Rattle.ct_names.proofs.NeedLemmas.{begins_within}

begins_further : {X : Type 0} (xs ys zs : List X) → Begins xs ys → Begins ys zs → Begins xs zs
begins_further xs ys zs first second = (first.0 ++ second.0, second.1 ∙ ap (λ ws. ws ++ second.0) first.1 ∙ append_assoc xs first.0 second.0)

pub extends_further : (last later earlier : Declarations) → Extends last later → Extends later earlier → Extends last earlier
extends_further last later earlier s f =
    record {
      sorts = begins_further earlier.sorts later.sorts last.sorts f.sorts s.sorts;
      ctors = begins_further earlier.ctors later.ctors last.ctors f.ctors s.ctors;
      sels = begins_further earlier.sels later.sels last.sels f.sels s.sels;
      functions = begins_further earlier.functions later.functions last.functions f.functions s.functions;
      definitions = begins_further earlier.definitions later.definitions last.definitions f.definitions s.definitions;
      heads = begins_further earlier.declared.heads later.declared.heads last.declared.heads f.heads s.heads;
      synonyms = begins_further earlier.declared.synonyms later.declared.synonyms last.declared.synonyms f.synonyms s.synonyms;
      spellings = begins_further earlier.spellings later.spellings last.spellings f.spellings s.spellings;
      origins = begins_further earlier.origins later.origins last.origins f.origins s.origins;
    }

pub sort_grows : (later d : Declarations) → Extends later d → (s : SortId) → IsSort d s → IsSort later s
sort_grows later d extends s is = begins_within d.sorts later.sorts extends.sorts s.0 is

-- variables whose sorts are there
pub scope_grows : (later d : Declarations) → Extends later d → (scope : List Variable) → ScopeIn d scope → ScopeIn later scope
scope_grows later d extends [] inside = tt
scope_grows later d extends (v ∷ scope) inside = (begins_within d.sorts later.sorts extends.sorts v.sort.0 inside.0, scope_grows later d extends scope inside.1)
