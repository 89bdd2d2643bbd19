-- An item that is read or refused.
use Rattle.std.proofs.Common.{◌≡◌, true, false, None, Some, Ok, Err, refl, sym, ap, subst, ◌∙◌, inl, inr, true≢false}
use Rattle.std.proofs.lemmas.Option.{same_Some}
use Rattle.ct_sorts.specs.Declarations.{Declarations}
use Rattle.ct_sexpr.specs.Expression.{Expression, Expressions}
use Rattle.ct_values.specs.Graph.{Nodes}
use Rattle.ct_eval.specs.declared.interp.Table.{Table}
use Rattle.ct_readback.specs.declared.item.Part.TheVariants as parts
use Rattle.ct_readback.specs.Parts.{holds}
use Rattle.ct_readback.specs.ItemText.{Due, ItemText, item_in, has_parts, has_form, is_heading}
use Rattle.ct_readback.specs.ItemAt.{TableValues, values_in, SaysTable, IsItemAt}
use Rattle.ct_readback.specs.ModelReads.{departs, misfits, cyclic}
use Rattle.ct_readback.specs.Said.{IsPart, IsTableOf}
use Rattle.ct_readback.specs.ItemRead.{IsItemRead}

-- an item by its parts
abbrev pub text_by : Expression → Expressions → Expression → Expression → ItemText
text_by name parameters result body = record { name = name; parameters = parameters; result = result; body = body }

module _ (d : Declarations) (g : Nodes) (due : Due) (e : Expression) where
  pub read_no_item : item_in due.off e ≡ None → IsItemRead d g due e (Err departs)
  read_no_item nothing = inl (refl, ap (holds (has_parts due.off)) nothing)

  module _ (text : ItemText) (written : item_in due.off e ≡ Some text) where
    form_is : has_form due e ≡ has_parts due.off text
    form_is = ap (holds (has_parts due.off)) written

    pub read_no_parts : has_parts due.off text ≡ false → IsItemRead d g due e (Err departs)
    read_no_parts never = inl (refl, form_is ∙ never)

    module _ (formed : has_parts due.off text ≡ true) where
      own_text : (values : TableValues) → (at : IsItemAt d due e values) → at.text ≡ text
      own_text values at = same_Some at.text text (sym at.written ∙ written)

      pub read_no_heading : is_heading d due text ≡ false → IsItemRead d g due e (Err misfits)
      read_no_heading never = inr (inl (refl, form_is ∙ formed, λ values at. absurd (true≢false (sym at.heading ∙ ap (is_heading d due) (own_text values at) ∙ never))))

      module _ (heading : is_heading d due text ≡ true) where
        pub read_misfit : IsPart d (SaysTable d due.args due.result text.body) values_in (IsTableOf d g due.args due.result) parts.Misfit → IsItemRead d g due e (Err misfits)
        read_misfit never = inr (inl (refl, form_is ∙ formed, λ values at. never values (subst (λ (t : ItemText). SaysTable d due.args due.result t.body values) (own_text values at) at.body)))

        at_of : (values : TableValues) → SaysTable d due.args due.result text.body values → IsItemAt d due e values
        at_of values says = record { text = text; written = written; heading = heading; body = says }

        pub read_cycle : IsPart d (SaysTable d due.args due.result text.body) values_in (IsTableOf d g due.args due.result) parts.Cycle → IsItemRead d g due e (Err cyclic)
        read_cycle (values, says, cycle) = inr (inr (refl, form_is ∙ formed, values, at_of values says, cycle))

        pub read_fine : (table : Table) → IsPart d (SaysTable d due.args due.result text.body) values_in (IsTableOf d g due.args due.result) (parts.Fine table) → IsItemRead d g due e (Ok table)
        read_fine table (values, says, never, is) = (values, record { form = form_is ∙ formed; fits = at_of values says; acyclic = never }, is)
