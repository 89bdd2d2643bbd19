use Rattle.std.proofs.Common.{refl, ap, ◌∙◌, arith}
use Rattle.ct_words.specs.NameList.{names_in}
use Rattle.ct_words.specs.Words.{unrestricted_logic_names}
use Rattle.ct_words.proofs.DistinctLemmas.{is_table_text}
use Rattle.ct_words.proofs.words.unrestricted_logics.Goals as goal

pub new-requires : goal.new-requires
new-requires c =
    let table = is_table_text c.as_bytes.result.now _ unrestricted_logic_names 2 c.as_bytes.ensures.value refl refl refl refl in
    (omega arith, (table.0, (table.1, table.2)))

pub returns : goal.returns
returns c = record { names = c.new.ensures.names ∙ ap names_in c.as_bytes.ensures.value }
