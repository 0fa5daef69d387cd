-- The board: a region and a state, and what each event of a list does to them. The calls are the definitions that their contracts cite.
use Rattle.std.specs.Prelude.{Bool, true, false, List, [], ◌∷◌, ℕ, zero, suc, leb, ℤ, Ok, Err, Some, None, Result, Option}
use Rattle.bank.specs.Bank.{loaded}
use Rattle.region.specs.Region as Region
use Rattle.header.specs.Header as Header
use Rattle.record.specs.declared.Source.{Source}
use Rattle.base.specs.Number.{pick}
use Rattle.flash.specs.Flash.{Op, size, torn, applied}
use Rattle.writer.specs.declared.Answer.TheVariants.{Done, Appended, NoneDue, Same, Different}
use Rattle.writer.specs.declared.Writer.{Writer}
use Rattle.writer.specs.State.{target}
use Rattle.lower.specs.Lower.{begun, started}
use Rattle.run.specs.Run.{Lower, lower_step, lower_ops, lower_region}
use Rattle.upper.specs.Upper.{Upper, upper_step, upper_region, upper_ops, begin_step, begin_region, begin_ops, key_bytes}
use Rattle.powerloss.specs.History.{Update, History, after_lower, after_lower_cut, after_upper, after_begin, with_open, is_word, is_done, any_done}
use Rattle.refusal.specs.declared.Refusal.{Refusal}
use Rattle.header.specs.declared.Bank.{Bank}
use Rattle.writer.specs.declared.Answer.{Answer}

-- A call with all its arguments, answered, or cut: its first k operations are done whole, and of the next the first j bytes. Any k and j:
-- past the last operation all are done, and past an operation's size it is whole. The lower beginning has no operation to cut.
pub data Event : Type 0 where
  begin : Bool → ℤ → Event
  begin_cut : Bool → ℤ → Event
  call : Lower → Event
  cut : Lower → ℕ → ℕ → Event
  begin_key : Bool → ℤ → List ℕ → List ℕ → List ℕ → Event
  begin_key_cut : Bool → ℤ → List ℕ → List ℕ → List ℕ → ℕ → ℕ → Event
  upper : Upper → Event
  upper_cut : Upper → ℕ → ℕ → Event

-- the held bank's 491,520 bytes, as found or as the commit word left them, and the bytes appended, if its update was committed in the list
pub record Image : Type 0 where
  pub bank : List ℕ
  pub given : Option (List ℕ)

pub record Run : Type 0 where
  pub region : List ℕ
  pub state : Option Writer
  pub history : History
  pub image : Image

-- The supply fails: of operations on bank n the first k are done whole, of the next the first j bytes, the rest not at all.
unfoldable pub cut_at : ℕ → ℕ → ℕ → List Op → List ℕ → List ℕ
cut_at n k j [] region = region
cut_at n zero j (op ∷ ops) region = torn n j op region
cut_at n (suc k) j (op ∷ ops) region = cut_at n k j ops (applied n op region)

-- how many of them are done then. E5: "an operation is done once all its bytes are". This counts bytes and doesn't read the flash: an erase
-- that is cut isn't done, even if the bytes left over were 255 already.
unfoldable pub done_at : ℕ → ℕ → List Op → ℕ
done_at k j [] = 0
done_at zero j (op ∷ ops) = pick (leb (size op) j) 1 0
done_at (suc k) j (op ∷ ops) = suc (done_at k j ops)

-- the region that a cut leaves; the operations are on the bank that is written
abbrev pub cut_region : ℕ → ℕ → Writer → List Op → List ℕ → List ℕ
cut_region k j w ops region = cut_at (target w.beginning.active) k j ops region

abbrev pub bank_in : List ℕ → Result (Option Bank) Refusal → List ℕ
bank_in region (Ok (Some b)) = Region.bank_of region b.number
bank_in region (Ok None) = []
bank_in region (Err r) = []

-- when the commit word is written, the image becomes the bank as it is then
unfoldable pub image_after : Bool → Bool → Option Update → List ℕ → Image → Image
image_after true true (Some u) region i = record { bank = Region.bank_of region u.number; given = Some u.data· }
image_after true true None region i = i
image_after true false v region i = i
image_after false b v region i = i

-- "With no state, at the start or after a cut, only a beginning can follow": any other call is skipped.
unfoldable pub on_call : Lower → Run → Option Writer → Run
on_call c r None = r
on_call c r (Some w) =
    let s = lower_step r.region w c in
    let after = lower_region r.region w c in
    record {
      region = after;
      state = Some s.writer;
      history = after_lower c s.answer r.history r.history.open·;
      image = image_after (is_word c) (is_done s.answer) r.history.open· after r.image;
    }

unfoldable pub on_cut : Lower → ℕ → ℕ → Run → Option Writer → Run
on_cut c k j r None = r
on_cut c k j r (Some w) =
    let ops = lower_ops r.region w c in
    let after = cut_region k j w ops r.region in
    record {
      region = after;
      state = None;
      history = after_lower_cut c (done_at k j ops) r.history r.history.open·;
      image = image_after (is_word c) (any_done (done_at k j ops)) r.history.open· after r.image;
    }

unfoldable pub on_upper : Upper → Run → Option Writer → Run
on_upper c r None = r
on_upper c r (Some w) =
    let s = upper_step r.region w c in
    record {
      region = upper_region r.region w c;
      state = Some s.writer;
      history = after_upper c s.answer r.history r.history.open·;
      image = r.image;
    }

unfoldable pub on_upper_cut : Upper → ℕ → ℕ → Run → Option Writer → Run
on_upper_cut c k j r None = r
on_upper_cut c k j r (Some w) =
    record {
      region = cut_region k j w (upper_ops r.region w c) r.region;
      state = None;
      history = with_open None r.history;
      image = r.image;
    }

-- a refused beginning leaves the state unchanged: the host keeps the one it had (the one returned meets 11 with every call)
abbrev pub state_after : Result Answer Refusal → Writer → Option Writer → Option Writer
state_after (Ok Done) w old = Some w
state_after (Ok (Appended n)) w old = old
state_after (Ok NoneDue) w old = old
state_after (Ok Same) w old = old
state_after (Ok Different) w old = old
state_after (Err r) w old = old

unfoldable pub next : Run → Event → Run
next r (begin comparing now) =
    let s = begun r.region comparing now in
    record {
      region = r.region;
      state = state_after s.answer s.writer r.state;
      history = after_begin now [] s.answer r.history;
      image = r.image;
    }
next r (begin_cut comparing now) = record { region = r.region; state = None; history = with_open None r.history; image = r.image }
next r (begin_key comparing now identity texts lengths) =
    let s = begin_step r.region comparing now identity texts lengths in
    record {
      region = begin_region r.region comparing now identity texts lengths;
      state = state_after s.answer s.writer r.state;
      history = after_begin now (key_bytes identity texts lengths) s.answer r.history;
      image = r.image;
    }
next r (begin_key_cut comparing now identity texts lengths k j) =
    record {
      region = cut_region k j (started (loaded r.region) comparing now) (begin_ops r.region comparing now identity texts lengths) r.region;
      state = None;
      history = with_open None r.history;
      image = r.image;
    }
next r (call c) = on_call c r r.state
next r (cut c k j) = on_cut c k j r r.state
next r (upper c) = on_upper c r r.state
next r (upper_cut c k j) = on_upper_cut c k j r r.state

unfoldable pub next_all : Run → List Event → Run
next_all r [] = r
next_all r (e ∷ es) = next_all (next r e) es

-- the records of the held bank up to its count
abbrev pub records_in : List ℕ → Result (Option Bank) Refusal → List Source
records_in region (Ok (Some b)) = Header.records_of b.version (Region.bank_of region b.number) b.count
records_in region (Ok None) = []
records_in region (Err r) = []

-- at first: G is load's answer on the region found, and no update is open
unfoldable pub found : List ℕ → Run
found region =
    record {
      region = region;
      state = None;
      history = record { held = loaded region; records = records_in region (loaded region); open· = None };
      image = record { bank = bank_in region (loaded region); given = None };
    }
