use Rattle.ct_formulas.proofs.ScopeLemmas.{mentions_more, sorted_lasting, sound_lasting, sound_with, sound_cut}
use Rattle.ct_formulas.proofs.theorems.scopes.Goals as goal

pub returns-clause-mentions_more : goal.returns-clause-mentions_more
returns-clause-mentions_more c = λ m n t up h. mentions_more m n up t h

pub returns-clause-sorted_lasting : goal.returns-clause-sorted_lasting
returns-clause-sorted_lasting c = λ later earlier env t sort of_later of_earlier extends h.
    sorted_lasting later earlier extends (c.structure.ensures.of_their_sorts later of_later) (c.structure.ensures.own_constructors earlier of_earlier)
    (record { listable = λ s. c.listed_values.ensures.lasting later earlier s of_earlier extends; listed = λ s. c.listed_values.ensures.longer later earlier s of_earlier extends }) env t sort h

pub returns-clause-sound_lasting : goal.returns-clause-sound_lasting
returns-clause-sound_lasting c = λ later earlier bodies of_later of_earlier extends same sound.
    sound_lasting later earlier extends (c.structure.ensures.of_their_sorts later of_later) (c.structure.ensures.own_constructors earlier of_earlier)
    (record { listable = λ s. c.listed_values.ensures.lasting later earlier s of_earlier extends; listed = λ s. c.listed_values.ensures.longer later earlier s of_earlier extends }) bodies same sound

pub returns-clause-sound_with : goal.returns-clause-sound_with
returns-clause-sound_with c = λ d f bodies body sound of. sound_with d f bodies body sound of

pub returns-clause-sound_cut : goal.returns-clause-sound_cut
returns-clause-sound_cut c = λ d n bodies sound. sound_cut d n bodies sound
