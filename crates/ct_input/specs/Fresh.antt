-- A reader that was fed nothing.
use Rattle.std.specs.Prelude.{[], false}
use Rattle.ct_sexpr.specs.Unread.{Unread}

abbrev pub fresh : Unread
fresh = record { bytes = []; line = 1; fed = 0; ended = false }
