use Rattle.std.proofs.Common.{ap, ◌∙◌, position}
use Rattle.std.specs.Str.{bytes_eq}
use Rattle.ct_generics.proofs.NameTableLemmas.{position-names}
use Rattle.ct_generics.proofs.names.Names.find.Goals as goal

pub returns : goal.returns
returns c =
    record { place = c.get_index_of.ensures.index ∙ position-names c.self.inside.entries.entries c.args.name.now ∙ ap (position (bytes_eq c.args.name.now)) c.self.view_is }
