-- The states that a list of calls reaches are within their ranges.
use mathlib.Core.Path.{◌≡◌, sym, ap, ◌∙◌}
use mathlib.Core.Bool.{Bool, true, false, false≢true}
use mathlib.Core.List.{List}
use Prim.Native.Nat.{ℕ}
use Rattle.writer.specs.declared.Writer.{Writer}
use Rattle.writer.specs.State.{in_range}
use Rattle.powerloss.specs.History.{Update}
use Rattle.powerloss.specs.Machine.{next_all, found}
use Rattle.powerloss.specs.Claim.{Reached}
use Rattle.powerloss.proofs.Inv.{State}
use Rattle.powerloss.proofs.Uppers.{inv-found, inv-all}
use Rattle.std.specs.Prelude.{Result, Some, None, Option}
use Rattle.refusal.specs.declared.Refusal.{Refusal}
use Rattle.header.specs.declared.Bank.{Bank}

abbrev pub is_state : Option Writer → Bool
is_state None = false
is_state (Some w) = true

abbrev pub state_or : Writer → Option Writer → Writer
state_or d None = d
state_or d (Some w) = w

-- a state that is reached is within its ranges
reached-by : (region : List ℕ) (hd : Result (Option Bank) Refusal) (s : Option Writer) (v : Option Update) (w : Writer) → State region hd s v → s ≡ Some w → in_range w ≡ true
reached-by region hd None v w o e = absurd (false≢true (ap is_state e))
reached-by region hd (Some x) None w o e = absurd o
reached-by region hd (Some x) (Some u) w o e = ap in_range (ap (state_or w) (sym e)) ∙ o.tied.range

pub reached : Reached
reached region events l y p w e =
    let r = next_all (found region) events in
    let h = inv-all events (found region) p (inv-found region l y) in
    reached-by r.region r.history.held r.state r.history.open· w h.open· e
