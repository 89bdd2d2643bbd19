use Rattle.std.proofs.Common.{rules, ◌≡◌, ◌∙◌, Bool, true, List, length, replicate, sym, ap, subst, arith}
use Rattle.std.specs.List.{Contains}
use Rattle.std.proofs.lemmas.List.{length-replicate}
use Rattle.ct_terms.specs.declared.ids.TermId.{TermId}
use Rattle.ct_congr.specs.Lone.{IsBlank}
use Rattle.ct_equivalence.specs.Signatures.{Signatures}
use Rattle.ct_congr.proofs.LoneLemmas.{IsBlank-replicate, AreLone-listed}
use Rattle.ct_congr.proofs.lone.lone_terms.Goals as goal

abbrev zeroth : TermId
zeroth = record { 0 = 0 }

pub list_all-requires-clause-long : goal.list_all-requires-clause-long
list_all-requires-clause-long c =
    let blanks : c.in_ok-blank.blank.items ≡ replicate c.len-count.result zeroth = c.in_ok-blank.ensures.items_if_clones_equal (search rules) in
    ap length c.as_slice.ensures.value ∙ ap length blanks ∙ length-replicate c.len-count.result zeroth ∙ c.len-count.ensures.count

pub list_all-requires-clause-marks : goal.list_all-requires-clause-marks
list_all-requires-clause-marks c =
    let marks : c.in_ok-lone.lone.items ≡ replicate c.len-count.result true = c.in_ok-lone.ensures.items_if_clones_equal (λ y e. e) in
    ap length marks ∙ length-replicate c.len-count.result true ∙ c.len-count.ensures.count

pub list_all-requires-clause-below : goal.list_all-requires-clause-below
list_all-requires-clause-below c = λ key t has.
    absurd (omega (arith, (subst (λ (list : Signatures). Contains list (key, t)) c.new-keys.ensures.empty has).1))

pub returns : goal.returns
returns c =
    let blanks : c.in_ok-blank.blank.items ≡ replicate c.len-count.result zeroth = c.in_ok-blank.ensures.items_if_clones_equal (search rules) in
    let is : IsBlank c.as_slice.result.now = subst IsBlank (sym (c.as_slice.ensures.value ∙ blanks)) (IsBlank-replicate c.len-count.result zeroth) in
    record { lone = AreLone-listed c.args.table.now c.as_slice.result.now c.list_all.new.keys c.list_all.new.lone.items is c.len.ensures.different c.in_ok-list_all.ensures.listed }
