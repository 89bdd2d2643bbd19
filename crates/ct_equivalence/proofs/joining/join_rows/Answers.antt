use Rattle.std.proofs.Common.{ℕ, List, length, ap, ap₂, ◌∙◌}
use Rattle.ct_terms.specs.declared.ids.TermId.{TermId}
use Rattle.ct_equivalence.specs.Undoing.{row_of, cut_row}
use Rattle.ct_equivalence.proofs.RowLemmas.{cut_row-back}
use Rattle.ct_equivalence.proofs.joining.join_rows.Goals as goal

pub returns-then-is_err-clause-members_unchanged : goal.returns-then-is_err-clause-members_unchanged
returns-then-is_err-clause-members_unchanged c =
    c.cut.ensures.first
    ∙ ap₂ (λ (rows : List (List TermId)) (n : ℕ). cut_row rows c.args.winner n) c.in_ok-append.ensures.appended (ap length c.row.ensures.value)
    ∙ cut_row-back c.args.members.now c.args.winner (row_of c.args.members.now c.args.loser) c.requires.winner
