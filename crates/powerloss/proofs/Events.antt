-- Every list of events keeps the count of operations (Count.antt), so a committed update has made the claimed number. By induction on the
-- list; a cut drops the state and with it the count.
use mathlib.Core.Path.{◌≡◌, refl, sym, ap, ◌∙◌, subst}
use mathlib.Core.Bool.{Bool, true, false, false≢true}
use mathlib.Core.List.{List, [], ◌∷◌, ◌++◌}
use Prim.Native.Nat.{ℕ, ◌+◌, ◌≤◌, min}
use native.Mathlib.Omega.{arith}
use lib.IntN.{ℤ}
use lib.ListN.{length, length-append}
use mir.Syntax.{w64}
use mir.Val.{SFits}
use Rattle.refusal.specs.declared.Refusal.{Refusal}
use Rattle.record.specs.declared.Source.{Source}
use Rattle.region.specs.Region.{region_size}
use Rattle.header.specs.Types.{Bytes}
use Rattle.bank.specs.Bank.{loaded}
use Rattle.flash.specs.Flash.{Op}
use Rattle.writer.specs.declared.Stage.{Stage}
use Rattle.writer.specs.declared.Stage.TheVariants.{Committed}
use Rattle.writer.specs.declared.Answer.TheVariants.{Done, Appended, NoneDue, Same, Different}
use Rattle.writer.specs.declared.Writer.{Writer}
use Rattle.writer.specs.State.{position, in_range, stage_ok}
use Rattle.writer.proofs.Laws.{ranged}
use Rattle.lower.specs.Lower.{started, begun}
use Rattle.run.specs.Run.{Lower, lower_step, lower_ops, lower_region, ran_writer, ran_ops}
use Rattle.run.specs.Appends.{appends}
use Rattle.upper.specs.Upper.{Upper, run_of, refusal_of, run_if, upper_run, answered, upper_step, upper_ops, begin_refusal, key_bytes, begin_run, began_with, begin_step, begin_ops}
use Rattle.powerloss.specs.History.{Update, opened, with_appended, update_after, is_done}
use Rattle.powerloss.specs.Machine.{Image, Event, begin, begin_cut, call, cut, begin_key, begin_key_cut, upper, upper_cut, Run, on_call, on_cut, on_upper, on_upper_cut, state_after, found, next, next_all}
use Rattle.powerloss.specs.Claim.{UpperTyped, Typed, AllTyped}
use Rattle.powerloss.proofs.Inv.{Kept, Open, State}
use Rattle.powerloss.proofs.Range.{committed-end}
use Rattle.powerloss.proofs.Lowers.{plain-call, Inv, mk, inv-call, begun-open}
use Rattle.powerloss.proofs.Texts.{bytes-key}
use Rattle.powerloss.proofs.Runs.{AllPlain}
use Rattle.powerloss.proofs.Uppers.{plain-appends, plain-run, done-by, inv-next, inv-all, inv-found}
use Rattle.powerloss.proofs.States.{reached}
use Rattle.powerloss.specs.Operations.{sectors, writes, operations_of, started_by, call_ops, upper_call_ops, since, ops_after, Counted, CommittedOperations, ComparingOperations, AllLower, LowerOperations}
use Rattle.powerloss.proofs.Count.{so_far, Tally, TallyOf, same-tally, call-tally}
use Rattle.std.specs.Prelude.{Ok, Err, Result, Some, None, Option}
use Rattle.header.specs.declared.Bank.{Bank}
use Rattle.writer.specs.declared.Answer.{Answer}

-- ---- a run

ran-tally : (cs : List Lower) (region : List ℕ) (hd : Result (Option Bank) Refusal) (rs : List Source) (im : Image) (w : Writer) (u : Update) → AllPlain cs → Kept region hd rs im → Open region hd w u
    → (ops m : ℕ) → TallyOf ops w → m ≡ ops + length (ran_ops region w cs) → TallyOf m (ran_writer region w cs)
unfolding ran_ops ran_writer
ran-tally [] region hd rs im w u p k o ops m h q = same-tally w.beginning.comparing w.stage w.contents.written ops m q h
ran-tally (c ∷ cs) region hd rs im w u p k o ops m h q =
    let z = plain-call region hd rs im w u k o c p.0 in
    let r = lower_region region w c in
    let s = lower_step region w c in
    let n = ops + length (lower_ops region w c) in
    let a = call-tally region w ops n k.size o.tied.range h c refl in
    ran-tally cs r hd rs im s.writer (update_after c s.answer u) p.1 z.whole z.open· n m a
    (q ∙ omega (arith, length-append (lower_ops region w c) (ran_ops r s.writer cs)))

-- ---- a beginning

first-tally : (comparing : Bool) (hd : Result (Option Bank) Refusal) (now : ℤ) → TallyOf 0 (started hd comparing now)
unfolding started
first-tally true hd now = refl
first-tally false hd now = (refl, tt)

abbrev TallyIn : Option Writer → ℕ → Type 0
TallyIn None ops = Unit {0}
TallyIn (Some w) ops = TallyOf ops w

started-tally : (x : Result Answer Refusal) (w : Writer) (s : Option Writer) (first old : List Op) → (x ≡ Ok Done → TallyOf (length first) w) → TallyIn s (length old)
    → TallyIn (state_after x w s) (length (started_by x first old))
started-tally (Ok Done) w s first old f h = f refl
started-tally (Ok (Appended n)) w s first old f h = h
started-tally (Ok NoneDue) w s first old f h = h
started-tally (Ok Same) w s first old f h = h
started-tally (Ok Different) w s first old f h = h
started-tally (Err r) w s first old f h = h

module _ (region : List ℕ) (hd : Result (Option Bank) Refusal) (rs : List Source) (im : Image) (k : Kept region hd rs im) (comparing : Bool) (now : ℤ) (identity texts lengths : List ℕ) (f : SFits w64 now) (bi : Bytes identity) (bt : Bytes texts) where
  abbrev w0 : Writer
  w0 = started hd comparing now

  abbrev key : List ℕ
  key = key_bytes identity texts lengths

  key-by : (x : Option Refusal) → (began_with x (ran_writer region w0 (run_if x (appends key))) comparing now).answer ≡ Ok Done
      → TallyOf (length (ran_ops region w0 (run_if x (appends key)))) (began_with x (ran_writer region w0 (run_if x (appends key))) comparing now).writer
  key-by None e =
      ran-tally (appends key) region hd rs im w0 (with_appended [] (opened hd now)) (plain-appends key (bytes-key identity texts lengths bi bt)) k
      (begun-open region hd rs im comparing now f k (done-by region hd k.size k.loads))
      0 (length (ran_ops region w0 (appends key))) (first-tally comparing hd now) (omega arith)
  key-by (Some r) e = absurd (false≢true (ap is_done e))

  key-tally : (begin_step region comparing now identity texts lengths).answer ≡ Ok Done
      → TallyOf (length (begin_ops region comparing now identity texts lengths)) (begin_step region comparing now identity texts lengths).writer
  unfolding begin_step begin_ops begin_run
  key-tally = rw k.loads (key-by (begin_refusal region identity texts lengths))

-- ---- each event

module _ (region : List ℕ) (hd : Result (Option Bank) Refusal) (rs : List Source) (v : Option Update) (im : Image) (ops : List Op) where
  lower-tally : (c : Lower) (s : Option Writer) → Inv (mk region s hd rs v im) → TallyIn s (length ops) → TallyIn (on_call c (mk region s hd rs v im) s).state (length (ops ++ call_ops region s c))
  unfolding on_call
  lower-tally c None i h = tt
  lower-tally c (Some w) i h = lower_in v i.open·
    where
      lower_in : (v : Option Update) → State region hd (Some w) v → TallyOf (length (ops ++ lower_ops region w c)) (lower_step region w c).writer
      lower_in None o = absurd o
      lower_in (Some u) o = call-tally region w (length ops) (length (ops ++ lower_ops region w c)) i.kept.size o.tied.range h c (length-append ops (lower_ops region w c))

  upper_by : (c : Upper) → UpperTyped c → (w : Writer) (u : Update) → Kept region hd rs im → Open region hd w u → TallyOf (length ops) w → (x : Option Refusal)
      → TallyOf (length (ops ++ ran_ops region w (run_if x (run_of c)))) (answered x (ran_writer region w (run_if x (run_of c)))).writer
  unfolding ran_ops ran_writer
  upper_by c p w u k o h None =
      ran-tally (run_of c) region hd rs im w u (plain-run c p) k o (length ops) (length (ops ++ ran_ops region w (run_of c))) h (length-append ops (ran_ops region w (run_of c)))
  upper_by c p w u k o h (Some r) =
      same-tally w.beginning.comparing w.stage w.contents.written (length ops) (length (ops ++ [])) (length-append ops []) h

  upper-tally : (c : Upper) → UpperTyped c → (s : Option Writer) → Inv (mk region s hd rs v im) → TallyIn s (length ops) → TallyIn (on_upper c (mk region s hd rs v im) s).state (length (ops ++ upper_call_ops region s c))
  unfolding on_upper upper_step upper_ops upper_run
  upper-tally c p None i h = tt
  upper-tally c p (Some w) i h = upper_in v i.open·
    where
      upper_in : (v : Option Update) → State region hd (Some w) v → TallyOf (length (ops ++ upper_ops region w c)) (upper_step region w c).writer
      upper_in None o = absurd o
      upper_in (Some u) o = upper_by c p w u i.kept o h (refusal_of region w c)

  cut-none : (c : Lower) (k j : ℕ) (s : Option Writer) → TallyIn (on_cut c k j (mk region s hd rs v im) s).state 0
  unfolding on_cut
  cut-none c k j None = tt
  cut-none c k j (Some w) = tt

  upper-cut-none : (c : Upper) (k j : ℕ) (s : Option Writer) → TallyIn (on_upper_cut c k j (mk region s hd rs v im) s).state 0
  unfolding on_upper_cut
  upper-cut-none c k j None = tt
  upper-cut-none c k j (Some w) = tt

next-tally : (r : Run) (e : Event) (ops : List Op) → Typed e → Inv r → TallyIn r.state (length ops) → TallyIn (next r e).state (length (since r e ops))
unfolding next since
next-tally r (begin comparing now) ops p i h =
    unfold begun in (started-tally (begun r.region comparing now).answer (started (loaded r.region) comparing now) r.state [] ops (λ e. first-tally comparing (loaded r.region) now) h)
next-tally r (begin_key comparing now identity texts lengths) ops p i h =
    started-tally (begin_step r.region comparing now identity texts lengths).answer (begin_step r.region comparing now identity texts lengths).writer r.state
    (begin_ops r.region comparing now identity texts lengths) ops
    (key-tally r.region r.history.held r.history.records r.image i.kept comparing now identity texts lengths p.0 p.1 p.2) h
next-tally r (begin_cut comparing now) ops p i h = tt
next-tally r (begin_key_cut comparing now identity texts lengths k j) ops p i h = tt
next-tally r (call c) ops p i h = lower-tally r.region r.history.held r.history.records r.history.open· r.image ops c r.state i h
next-tally r (upper c) ops p i h = upper-tally r.region r.history.held r.history.records r.history.open· r.image ops c p r.state i h
next-tally r (cut c k j) ops p i h = cut-none r.region r.history.held r.history.records r.history.open· r.image ops c k j r.state
next-tally r (upper_cut c k j) ops p i h = upper-cut-none r.region r.history.held r.history.records r.history.open· r.image ops c k j r.state

all-tally : (es : List Event) (r : Run) (ops : List Op) → AllTyped es → Inv r → TallyIn r.state (length ops) → TallyIn (next_all r es).state (length (ops_after r ops es))
unfolding next_all ops_after
all-tally [] r ops p i h = h
all-tally (e ∷ es) r ops p i h = all-tally es (next r e) (since r e ops) p.1 (inv-next r e p.0 i) (next-tally r e ops p.0 i h)

tally-found : (region : List ℕ) (events : List Event) → length region ≡ region_size → Bytes region → AllTyped events → (w : Writer) → (next_all (found region) events).state ≡ Some w
    → TallyOf (length (ops_after (found region) [] events)) w
tally-found region events l y p w e =
    subst (λ (s : Option Writer). TallyIn s (length (ops_after (found region) [] events))) e
    (all-tally events (found region) [] p (inv-found region l y) (unfold found in tt))

-- ---- a committed state

as-claimed : (n ops : ℕ) → ops ≡ 1 + sectors n + writes n + 2 → ops ≡ operations_of n
as-claimed n ops e = omega arith

count-is : (n ops : ℕ) → 1 ≤ n → ops ≡ so_far Committed n → ops ≡ operations_of n
count-is n ops h e =
    let one : min n 1 ≡ 1 = omega arith in
    as-claimed n ops (e ∙ ap (λ (x : ℕ). x + sectors n + writes n + 2) one)

counted : (w : Writer) (ops : ℕ) → in_range w ≡ true → w.stage ≡ Committed → TallyOf ops w → Counted (position w.contents) ops
counted w ops r e h =
    let c = w.beginning.comparing in
    let k = committed-end c w.contents (ap (stage_ok c w.contents) (sym e) ∙ (ranged w r).stage) in
    let g = subst (λ (x : Bool). Tally x Committed w.contents.written ops) k.writing (subst (λ (s : Stage). Tally c s w.contents.written ops) e h) in
    let n : w.contents.written ≡ position w.contents = omega (arith, k.empty) in
    subst (λ (x : ℕ). Counted x ops) n (record { some· = g.1; count = count-is w.contents.written ops g.1 g.0 })

contents-length : (region : List ℕ) (hd : Result (Option Bank) Refusal) (w : Writer) (u : Update) (s : Option Writer) (v : Option Update) → State region hd s v → s ≡ Some w → v ≡ Some u → length u.data· ≡ position w.contents
contents-length region hd w u s v o e f =
    let z : State region hd (Some w) (Some u) = subst (State region hd (Some w)) f (subst (λ (x : Option Writer). State region hd x v) e o) in
    z.tied.counted.length·

pub committed-operations : CommittedOperations
committed-operations region events l y p w u e f g =
    let r = next_all (found region) events in
    let ops = length (ops_after (found region) [] events) in
    let i = inv-all events (found region) p (inv-found region l y) in
    let n = contents-length r.region r.history.held w u r.state r.history.open· i.open· e f in
    subst (λ (x : ℕ). Counted x ops) (sym n) (counted w ops (reached region events l y p w e) g (tally-found region events l y p w e))

pub comparing-operations : ComparingOperations
comparing-operations region events l y p w e c =
    let ops = length (ops_after (found region) [] events) in
    subst (λ (x : Bool). Tally x w.stage w.contents.written ops) c (tally-found region events l y p w e)

-- ---- a list of lower calls

record Ended (ops : ℕ) (w : Writer) : Type 0 where
  tally : TallyOf ops w
  range : in_range w ≡ true

state-range : (region : List ℕ) (hd : Result (Option Bank) Refusal) (w : Writer) (v : Option Update) → State region hd (Some w) v → in_range w ≡ true
state-range region hd w None o = absurd o
state-range region hd w (Some u) o = o.tied.range

calls-tally : (cs : List Lower) (region : List ℕ) (w : Writer) (hd : Result (Option Bank) Refusal) (rs : List Source) (v : Option Update) (im : Image) → AllLower cs → Inv (mk region (Some w) hd rs v im)
    → (ops m : ℕ) → TallyOf ops w → m ≡ ops + length (ran_ops region w cs) → Ended m (ran_writer region w cs)
unfolding ran_ops ran_writer
calls-tally [] region w hd rs v im p i ops m h q =
    record { tally = same-tally w.beginning.comparing w.stage w.contents.written ops m q h; range = state-range region hd w v i.open· }
calls-tally (c ∷ cs) region w hd rs v im p i ops m h q =
    let r = on_call c (mk region (Some w) hd rs v im) (Some w) in
    let r' = lower_region region w c in
    let w' = (lower_step region w c).writer in
    let n = ops + length (lower_ops region w c) in
    let a = call-tally region w ops n i.kept.size (state-range region hd w v i.open·) h c refl in
    calls-tally cs r' w' r.history.held r.history.records r.history.open· r.image p.1
    (unfold on_call in (inv-call c region (Some w) hd rs v im p.0 i))
    n m a (q ∙ omega (arith, length-append (lower_ops region w c) (ran_ops r' w' cs)))

pub lower-operations : LowerOperations
unfolding begun
lower-operations region l y now f calls p e =
    let k = (inv-found region l y).kept in
    let hd = loaded region in
    let w = started hd false now in
    let i : Inv (mk region (Some w) hd (found region).history.records (Some (with_appended [] (opened hd now))) (found region).image) =
    record { kept = unfold found in k; open· = unfold found in (begun-open region hd _ _ false now f k (done-by region hd l refl)) } in
    let z = calls-tally calls region w hd (found region).history.records (Some (with_appended [] (opened hd now))) (found region).image p i 0 (length (ran_ops region w calls)) (first-tally false hd now) (omega arith) in
    counted (ran_writer region w calls) (length (ran_ops region w calls)) z.range e z.tally
