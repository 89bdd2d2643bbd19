use Rattle.test_reading.proofs.declarations.answer_over.Goals as goal

pub cut_to-requires : goal.cut_to-requires
cut_to-requires c = record { can_cut = c.mark-mark.ensures.lasting _ c.answer_steps.ensures.grown }
