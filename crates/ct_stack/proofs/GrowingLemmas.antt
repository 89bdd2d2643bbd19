-- Tables that grow by the core terms of formulas, one after the other.
use Rattle.std.proofs.Common.{◌≡◌, ◌∙◌, ◌+◌, ◌<◌, ◌≤◌, List, [], ◌∷◌, ◌++◌, length, Contains, slice_get, refl, sym, ap, subst, inl, inr, arith}
use Rattle.std.proofs.lemmas.List.{append_assoc, append-nil, length-append}
use Rattle.std.proofs.lemmas.List.Elements.{Contains-append_cases, Contains-append_left, Contains-append_right}
use Rattle.std.proofs.lemmas.Option.{none-some}
use Rattle.ct_lemmas.proofs.Pairs.{AllZip-push}
use Rattle.ct_terms.specs.declared.ids.TermId.{TermId}
use Rattle.ct_terms.specs.Terms.{Terms, AreSorted, AreOrdered, BeginsWithTruths, most_terms}
use Rattle.ct_terms.specs.CoreTree.{CoreTree, term_at}
use Rattle.ct_formulas.specs.Formula.{Formula}
use Rattle.ct_closure.specs.Closed.{truth_trees}
use Rattle.ct_compile.specs.Effect.{Stands, AllStand, IsPrefix}
use Rattle.ct_stack.specs.Stack.{Context, core, cores}
use Rattle.ct_stack.specs.Refusal.{HasManyTerms}
use Rattle.ct_stack.specs.Held.{IsTableOf}

-- more roots have no fewer terms
pub many_more : (xs ys : List CoreTree) → ((t : CoreTree) → Contains xs t → Contains ys t) → HasManyTerms xs → HasManyTerms ys
many_more xs ys more many =
    record {
      terms = many.terms;
      different = many.different;
      inside = λ t h. let root = many.inside t h in (root.0, rooted root.0 root.1, root.2);
      many = many.many;
    }
  where
    rooted : (root : CoreTree) → Contains (truth_trees ++ xs) root → Contains (truth_trees ++ ys) root
    rooted root h =
        elim (Contains-append_cases truth_trees xs root h) [
          | inl truth ↦ Contains-append_left truth_trees ys root truth
          | inr some ↦ Contains-append_right truth_trees ys root (more root some)
        ]

-- the theorem on longer tables
abbrev pub Longer : Type 0
Longer = (table more : Terms) (t : TermId) → AreOrdered (table ++ more) → t.0 < length table → term_at (table ++ more) t ≡ term_at table t

-- so far the table has grown, from the first one, by the core terms of formulas, of which these are left
pub record IsUnderWay (c : Context) (all left : List Formula) (first table : Terms) (numbers : List TermId) : Type 0 where
  pub so_far : List CoreTree
  pub whole : cores c all ≡ so_far ++ cores c left
  pub stand : AllStand table numbers so_far
  pub exact : (roots : List CoreTree) → IsTableOf c.declarations roots first → IsTableOf c.declarations (roots ++ so_far) table
  pub grown : IsPrefix first table
  pub sorted : AreSorted c.declarations table
  pub few : length table ≤ most_terms

-- a term of a table stands in a longer one
stand_on : Longer → (table new : Terms) (t : TermId) (tree : CoreTree) → IsPrefix table new → AreOrdered new → Stands table t tree → Stands new t tree
stand_on longer table new t tree grown ordered stands =
    let long : length new ≡ length table + length grown.0 = ap (λ (ts : Terms). length ts) grown.1 ∙ length-append table grown.0 in
    (omega (arith, stands.0, long), ap (λ (ts : Terms). term_at ts t) grown.1 ∙ longer table grown.0 t (subst AreOrdered grown.1 ordered) stands.0 ∙ stands.1)

all_stand_on : Longer → (table new : Terms) (ns : List TermId) (trees : List CoreTree) → IsPrefix table new → AreOrdered new → AllStand table ns trees → AllStand new ns trees
all_stand_on longer table new [] [] grown ordered all = tt
all_stand_on longer table new [] (t ∷ ts) grown ordered all = absurd all
all_stand_on longer table new (n ∷ ns) [] grown ordered all = absurd all
all_stand_on longer table new (n ∷ ns) (t ∷ ts) grown ordered all =
    (stand_on longer table new n t grown ordered all.0, all_stand_on longer table new ns ts grown ordered all.1)

pub prefix_of_prefix : (first table new : Terms) → IsPrefix first table → IsPrefix table new → IsPrefix first new
prefix_of_prefix first table new g h = (g.0 ++ h.0, h.1 ∙ ap (λ (ts : Terms). ts ++ h.0) g.1 ∙ append_assoc first g.0 h.0)

module _ (c : Context) (all : List Formula) (first : Terms) where
  pub not_begun : AreSorted c.declarations first → length first ≤ most_terms → IsUnderWay c all all first first []
  not_begun sorted few =
      record {
        so_far = [];
        whole = refl;
        stand = tt;
        exact = λ roots of. subst (λ (rs : List CoreTree). IsTableOf c.declarations rs first) (sym (append-nil roots)) of;
        grown = ([], sym (append-nil first));
        sorted = sorted;
        few = few;
      }

  module _ (f : Formula) (left : List Formula) (table : Terms) (numbers : List TermId) (way : IsUnderWay c all (f ∷ left) first table numbers) where
    -- one core term more
    pub one_number_more : Longer → (new : Terms) (t : TermId) → IsPrefix table new → AreOrdered new → AreSorted c.declarations new → length new ≤ most_terms → Stands new t (core c f) → ((roots : List CoreTree) → IsTableOf c.declarations roots table → IsTableOf c.declarations (roots ++ core c f ∷ []) new) → IsUnderWay c all left first new (numbers ++ t ∷ [])
    one_number_more longer new t grown ordered sorted few stands made =
        record {
          so_far = way.so_far ++ core c f ∷ [];
          whole = way.whole ∙ sym (append_assoc way.so_far (core c f ∷ []) (cores c left));
          stand = AllZip-push (Stands new) numbers way.so_far t (core c f) (all_stand_on longer table new numbers way.so_far grown ordered way.stand) stands;
          exact = λ roots of.
              subst (λ (rs : List CoreTree). IsTableOf c.declarations rs new) (append_assoc roots way.so_far (core c f ∷ []))
              (made (roots ++ way.so_far) (way.exact roots of));
          grown = prefix_of_prefix first table new way.grown grown;
          sorted = sorted;
          few = few;
        }

    -- where one core term more is too many, all are
    pub too_many_by_one : (roots : List CoreTree) → HasManyTerms ((roots ++ way.so_far) ++ core c f ∷ []) → HasManyTerms (roots ++ cores c all)
    too_many_by_one roots many = many_more ((roots ++ way.so_far) ++ core c f ∷ []) (roots ++ cores c all) inside many
      where
        inside : (t : CoreTree) → Contains ((roots ++ way.so_far) ++ core c f ∷ []) t → Contains (roots ++ cores c all) t
        inside t h =
            subst (λ (ts : List CoreTree). Contains ts t) same
            (Contains-append_left ((roots ++ way.so_far) ++ core c f ∷ []) (cores c left) t h)
          where
            same : ((roots ++ way.so_far) ++ core c f ∷ []) ++ cores c left ≡ roots ++ cores c all
            same =
                append_assoc (roots ++ way.so_far) (core c f ∷ []) (cores c left)
                ∙ append_assoc roots way.so_far (core c f ∷ cores c left)
                ∙ ap (λ (ts : List CoreTree). roots ++ ts) (sym way.whole)

  -- all are made
  pub all_made : (table : Terms) (numbers : List TermId) (way : IsUnderWay c all [] first table numbers) → way.so_far ≡ cores c all
  all_made table numbers way = sym (way.whole ∙ append-nil way.so_far)

-- a table has two terms at least
pub two_at_least : (table : Terms) → BeginsWithTruths table → 2 ≤ length table
two_at_least [] e = absurd (none-some _ (ap (λ (ts : Terms). slice_get ts 0) e))
two_at_least (x ∷ []) e = absurd (none-some _ (ap (λ (ts : Terms). slice_get ts 1) e))
two_at_least (x ∷ (y ∷ table)) e = omega arith
