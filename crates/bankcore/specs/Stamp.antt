-- The host's stamp as C passes it: a flag, and a time that counts only if the flag is set.
use Rattle.std.specs.Prelude.{Bool, true, false, ℤ, Some, None, Option}

abbrev pub stamp_of : Bool → ℤ → Option ℤ
stamp_of true s = Some s
stamp_of false s = None
