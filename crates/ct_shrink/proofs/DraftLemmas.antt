-- A core that is being shrunk: nothing is known yet, one place more, and all.
use Rattle.std.proofs.Common.{◌≡◌, ℕ, ◌+◌, List, [], ◌∷◌, ◌++◌, length, drop, true, Contains, sym, ap, subst, ◌∙◌, arith}
use Rattle.std.specs.List.{AllZip}
use Rattle.std.proofs.lemmas.List.{append-nil, append_assoc, drop_all}
use Rattle.std.proofs.lemmas.List.Elements.{All-contains}
use Rattle.ct_lemmas.proofs.Pairs.{AllZip-push, AllZip-weaker}
use Rattle.ct_sorts.specs.Declarations.{Declarations}
use Rattle.ct_sorts.specs.Consistent.{IsConsistent}
use Rattle.ct_terms.specs.declared.ids.TermId.{TermId}
use Rattle.ct_terms.specs.Terms.{Terms, IsTermTable, AreSorted}
use Rattle.ct_terms.specs.CoreTree.{term_at}
use Rattle.ct_closure.specs.ClosedTable.{terms_at}
use Rattle.ct_eval.specs.declared.interp.Interp.{Interp}
use Rattle.ct_eval.specs.Truth.{truth_value}
use Rattle.ct_log.specs.Acceptance.{Passes}
use Rattle.ct_log.specs.Recorded.{Derived}
use Rattle.ct_core.specs.Core.{AreAt, IsCore}
use Rattle.ct_engine.specs.Theorems.{ModelTheorems}
use Rattle.ct_engine.specs.declared.verdict.Spent.{Spent}
use Rattle.ct_engine.specs.Verdict.{IsModel, IsRefutation, IsSpending}
use Rattle.ct_engine.proofs.ModelLemmas.{Holds-same}
use Rattle.ct_shrink.specs.declared.shrunk.Need.{Need}
use Rattle.ct_shrink.specs.declared.shrunk.Need.TheVariants.{Shown, Open}
use Rattle.ct_shrink.specs.declared.shrunk.Shrunk.{Shrunk}
use Rattle.ct_shrink.specs.declared.shrinking.Draft.{Draft}
use Rattle.ct_shrink.specs.Shrunk.{IsCoreOf, IsRefutedAt, ArePart, IsShown, IsLeftOpen, IsNeed, IsShrunk}
use Rattle.ct_shrink.specs.Shrinking.{IsDraft}
use Rattle.ct_shrink.proofs.PlaceLemmas.{at_images, at_member, part_without, not_among, have_others, inside_whole}

module _ (d : Declarations) (table : Terms) (asserts : List TermId) where
  -- the derivation of a core refutes its assertions
  pub core_refutes : ModelTheorems → (places : List ℕ) (derived : Derived) → IsConsistent d → IsTermTable derived.rec.terms → AreSorted d derived.rec.terms → IsCoreOf d table asserts places derived → IsRefutedAt d table asserts places derived
  core_refutes theorems places derived consistent is_table sorted core = record {
    chosen = core.chosen;
    stand = core.stand;
    refutation = record {
      declarations = core.declarations;
      is_table = is_table;
      sorted = sorted;
      asserted = core.asserted;
      passes = core.passes;
      no_model = λ i proper holds. theorems.no_model d i derived.rec.terms derived.asserts derived.rec.lines consistent proper is_table.ordered is_table.begins sorted core.passes
          (Holds-same theorems d i table derived.rec.terms core.chosen derived.asserts core.asserted holds);
    };
  }

  -- the core of a refutation is a core of the assertions
  pub core_found : (derived core : Derived) (places : List ℕ) → IsRefutation d table asserts derived → IsCore derived places core → Passes d core.rec.terms core.asserts core.rec.lines → IsCoreOf d table asserts places core
  core_found derived core places refutation is passes =
      let chosen = at_images (term_at derived.rec.terms) (term_at table) asserts derived.asserts refutation.asserted places core.asserts is.asserts in
      record {
        rising = is.rising;
        chosen = chosen.0;
        stand = chosen.1;
        declarations = is.declarations ∙ refutation.declarations;
        asserted = subst (λ (terms : Terms). terms_at terms core.asserts ≡ terms_at table chosen.0) (sym is.terms) chosen.2;
        passes = passes;
      }

  module _ (budget : ℕ) (given : List ℕ) where
    -- what is needed beside some places is needed beside fewer
    need_fewer : (places less : List ℕ) → ((p : ℕ) → Contains less p → Contains places p) → (place : ℕ) (need : Need) → IsNeed d table asserts budget given places place need → IsNeed d table asserts budget given less place need
    need_fewer places less inside place (Shown i) is = record { proper = is.proper; others = λ other t h different at. is.others other t (inside other h) different at }
    need_fewer places less inside place (Open spent) is = record {
      asked = is.asked;
      part = is.part;
      others = λ other h different. is.others other (inside other h) different;
      without = is.without;
      chosen = is.chosen;
      stand = is.stand;
      spending = is.spending;
    }

    -- an interpretation of the others shows that a place is needed
    pub need_shown : (front : List ℕ) (place : ℕ) (back : List ℕ) (chosen : List TermId) (i : Interp) → AreAt asserts (front ++ back) chosen → IsModel d table chosen i → IsShown d table asserts (front ++ place ∷ back) place i
    need_shown front place back chosen i stand model = record {
      proper = model.proper;
      others = λ other t inside different at.
          All-contains (λ (u : TermId). truth_value d i table u ≡ true) chosen t model.holds
          (at_member asserts (front ++ back) chosen other t stand (have_others front place back other inside different) at);
    }

    -- the record of a search over the others leaves it open
    pub need_open : (front : List ℕ) (place : ℕ) (back : List ℕ) (chosen : List TermId) (spent : Spent) → ArePart given (front ++ place ∷ back) → AreAt asserts (front ++ back) chosen → IsSpending d table chosen budget spent
        → IsLeftOpen d table asserts budget given (front ++ place ∷ back) place spent
    need_open front place back chosen spent part stand spending = record {
      asked = front ++ back;
      part = part_without front place back given part;
      others = have_others front place back;
      without = not_among front place back part.rising;
      chosen = chosen;
      stand = stand;
      spending = spending;
    }

    module _ (count place : ℕ) (old new : Draft) (was : IsDraft d table asserts budget given count old) (next : drop count given ≡ place ∷ drop (count + 1) given) where
      abbrev pub front : List ℕ
      front = old.places.items

      abbrev pub back : List ℕ
      back = drop (count + 1) given

      part : ArePart given (front ++ place ∷ back)
      part = subst (λ (ps : List ℕ). ArePart given (old.places.items ++ ps)) next was.part

      needs : AllZip (IsNeed d table asserts budget given (front ++ place ∷ back)) front old.needs.items
      needs = subst (λ (ps : List ℕ). AllZip (IsNeed d table asserts budget given (old.places.items ++ ps)) old.places.items old.needs.items) next was.needs

      refuted : IsRefutedAt d table asserts (front ++ place ∷ back) old.derivation.value
      refuted = subst (λ (ps : List ℕ). IsRefutedAt d table asserts (old.places.items ++ ps) old.derivation.value) next was.refuted

      -- the place goes
      pub draft_without : (chosen : List TermId) → AreAt asserts (front ++ back) chosen → IsRefutation d table chosen new.derivation.value → new.places.items ≡ front → new.needs.items ≡ old.needs.items → IsDraft d table asserts budget given (count + 1) new
      draft_without chosen stand refutation places_are needs_are = record {
        part = subst (λ (ps : List ℕ). ArePart given (ps ++ back)) (sym places_are) (part_without front place back given part);
        refuted = record {
          chosen = chosen;
          stand = subst (λ (ps : List ℕ). AreAt asserts (ps ++ back) chosen) (sym places_are) stand;
          refutation = refutation;
        };
        needs =
            subst (λ (ps : List ℕ). AllZip (IsNeed d table asserts budget given (ps ++ back)) ps new.needs.items) (sym places_are)
            (subst (λ (ns : List Need). AllZip (IsNeed d table asserts budget given (front ++ back)) front ns) (sym needs_are)
            (AllZip-weaker (IsNeed d table asserts budget given (front ++ place ∷ back)) (IsNeed d table asserts budget given (front ++ back))
            (need_fewer (front ++ place ∷ back) (front ++ back) (inside_whole front place back)) front old.needs.items needs));
      }

      -- the place stays
      pub draft_with : (need : Need) → IsNeed d table asserts budget given (front ++ place ∷ back) place need → new.places.items ≡ front ++ place ∷ [] → new.needs.items ≡ old.needs.items ++ need ∷ [] → new.derivation ≡ old.derivation
          → IsDraft d table asserts budget given (count + 1) new
      draft_with need is places_are needs_are derivation_is =
          let whole : new.places.items ++ back ≡ front ++ place ∷ back = ap (λ (ps : List ℕ). ps ++ back) places_are ∙ append_assoc front (place ∷ []) back in
          record {
            part = subst (ArePart given) (sym whole) part;
            refuted =
                subst (λ (ps : List ℕ). IsRefutedAt d table asserts ps new.derivation.value) (sym whole)
                (subst (λ (x : Derived). IsRefutedAt d table asserts (front ++ place ∷ back) x) (sym (ap (λ b. b.value) derivation_is)) refuted);
            needs =
                subst (λ (ps : List ℕ). AllZip (IsNeed d table asserts budget given ps) new.places.items new.needs.items) (sym whole)
                (subst (λ (ps : List ℕ). AllZip (IsNeed d table asserts budget given (front ++ place ∷ back)) ps new.needs.items) (sym places_are)
                (subst (λ (ns : List Need). AllZip (IsNeed d table asserts budget given (front ++ place ∷ back)) (front ++ place ∷ []) ns) (sym needs_are)
                (AllZip-push (IsNeed d table asserts budget given (front ++ place ∷ back)) front old.needs.items place need needs is)));
          }

    -- all places were asked
    pub shrunk_all : (draft : Draft) (shrunk : Shrunk) → IsDraft d table asserts budget given (length given) draft → shrunk.core.places.items ≡ draft.places.items → shrunk.needs.items ≡ draft.needs.items → shrunk.core.derivation ≡ draft.derivation.value
        → IsShrunk d table asserts budget given shrunk
    shrunk_all draft shrunk is places_are needs_are derivation_is =
        let whole : draft.places.items ++ drop (length given) given ≡ shrunk.core.places.items = ap (λ (ps : List ℕ). draft.places.items ++ ps) (drop_all (length given) given (omega arith)) ∙ (append-nil draft.places.items ∙ sym places_are) in
        record {
          part = subst (ArePart given) whole is.part;
          refuted =
              subst (IsRefutedAt d table asserts shrunk.core.places.items) (sym derivation_is)
              (subst (λ (ps : List ℕ). IsRefutedAt d table asserts ps draft.derivation.value) whole is.refuted);
          needs =
              subst (λ (ps : List ℕ). AllZip (IsNeed d table asserts budget given shrunk.core.places.items) ps shrunk.needs.items) (sym places_are)
              (subst (λ (ns : List Need). AllZip (IsNeed d table asserts budget given shrunk.core.places.items) draft.places.items ns) (sym needs_are)
              (subst (λ (ps : List ℕ). AllZip (IsNeed d table asserts budget given ps) draft.places.items draft.needs.items) whole is.needs));
        }
