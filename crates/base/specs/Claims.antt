-- What is proved of comparing bytes, beyond the call's promise.
use Rattle.base.specs.Same.{SameIsEqual}

-- all of them: what `same_holds` promises
pub record Claims : Type 0 where
  pub same_is_equal : SameIsEqual
