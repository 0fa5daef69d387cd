-- Appending bytes and closing keep the invariant: the bytes go into the tail and into the history alike, both CRCs go on over them, and the
-- region stays.
use mathlib.Core.Path.{◌≡◌, refl, sym, ap, ◌∙◌, subst}
use mathlib.Core.Bool.{Bool, true, false, not, ◌&&◌}
use mathlib.Core.Logic.{inl, inr}
use mathlib.Core.List.{List, [], ◌++◌, append_assoc}
use Prim.Native.Nat.{ℕ, zero, suc, ◌+◌, ◌≤◌}
use native.Mathlib.Omega.{arith}
use borrow.Author.Tests.{leb-true, not-true}
use lib.Dec.{leb}
use lib.ListN.{length, take, drop, length-append, length-take}
use lib.Seq.{sets, sets-eq, length-sets, drop-append-le, take_at, length-take-le}
use Rattle.base.specs.Number.{pick}
use Rattle.leaf.specs.Crc.{crc32}
use Rattle.leaf.proofs.Checksum.{crc32-append}
use Rattle.refusal.specs.declared.Refusal.TheVariants.{Full, Turn}
use Rattle.region.specs.Region.{capacity}
use Rattle.base.proofs.Bools.{and_left, and_right}
use Rattle.header.specs.Types.{Bytes}
use Rattle.writer.specs.declared.Stage.{Stage}
use Rattle.writer.specs.declared.Stage.TheVariants.{Idle, Due, HeaderWritten, Committed}
use Rattle.writer.specs.declared.Operation.TheVariants.{Erase, Write, Compare}
use Rattle.writer.specs.declared.Answer.TheVariants.{Appended}
use Rattle.writer.specs.declared.Contents.{Contents}
use Rattle.writer.specs.declared.Writer.{Writer}
use Rattle.writer.specs.declared.Step.{Step}
use Rattle.writer.specs.State.{position, is_due, stage_of, is_open, in_range, did, stays, tail_size}
use Rattle.writer.proofs.Laws.{Ranged, ranged, fill-fits, open-table}
use Rattle.lower.specs.Lower.{may_append, accepted, more_contents, with_bytes, appended, bytes_step, closed_contents, with_closed, close_step}
use Rattle.run.specs.Run.{bytes, close}
use Rattle.powerloss.specs.History.{Update, records_after, with_appended, update_after}
use Rattle.powerloss.proofs.Bytes.{bytes_take, bytes-sets}
use Rattle.powerloss.proofs.Inv.{Lies, Mode, Open}
use Rattle.powerloss.proofs.Keeps.{keeps-bytes, keeps-closed}
use Rattle.powerloss.proofs.Range.{open-aligned, true-false}
use Rattle.powerloss.proofs.Quiet.{only-idle, mode-stage, with_appended-nil}
use Rattle.std.specs.Prelude.{Ok, Result, Option}
use Rattle.refusal.specs.declared.Refusal.{Refusal}
use Rattle.header.specs.declared.Bank.{Bank}

-- the tail once bytes are appended to what it holds
tail_more : (tail : List ℕ) (n : ℕ) (ys : List ℕ) → n + length ys ≤ length tail → take (n + length ys) (sets tail n ys) ≡ take n tail ++ ys
tail_more tail n ys h =
    let l : length (take n tail ++ ys) ≡ n + length ys = length-append (take n tail) ys ∙ omega (arith, length-take-le n tail (omega arith)) in
    ap (take (n + length ys)) (sets-eq ys tail n h)
    ∙ take_at (take n tail ++ ys) (drop (n + length ys) tail) (n + length ys) l

all_more : (front tail : List ℕ) (n : ℕ) (ys d : List ℕ) → n + length ys ≤ length tail → d ≡ front ++ take n tail → d ++ ys ≡ front ++ take (n + length ys) (sets tail n ys)
all_more front tail n ys d l e =
    ap (λ (x : List ℕ). x ++ ys) e
    ∙ append_assoc front (take n tail) ys
    ∙ ap (λ (x : List ℕ). front ++ x) (sym (tail_more tail n ys l))

idle-more : (t : Contents) (tail : List ℕ) (u : Update) (b ys : List ℕ) → t.fill + length ys ≤ length tail → Lies Idle t tail u b → Lies Idle (more_contents t ys) (sets tail t.fill ys) (with_appended ys u) b
idle-more t tail u b ys l (inl f) =
    inl (record { written = f.written; all = ap (λ (x : List ℕ). x ++ ys) f.all ∙ sym (tail_more tail t.fill ys l) })
idle-more t tail u b ys l (inr h) =
    let g = h.0 in
    inr (
      record {
        front = g.front;
        rest = g.rest;
        gap = g.gap;
        lies = g.lies;
        count = g.count;
        all = all_more g.front tail t.fill ys u.data· l g.all;
        ends = g.ends;
        least = g.least;
        most = g.most;
      },
      h.1,
    )

mode-more : (c : Bool) (st : Stage) (region : List ℕ) (hd active : Result (Option Bank) Refusal) (t : Contents) (tail : List ℕ) (u : Update) (ys : List ℕ) → st ≡ Idle → t.fill + length ys ≤ length tail
    → Mode c st region hd active t tail u → Mode c Idle region hd active (more_contents t ys) (sets tail t.fill ys) (with_appended ys u)
mode-more true st region hd active t tail u ys e l h =
    let g = h.1 in
    (h.0, record { front = g.front; count = g.count; all = all_more g.front tail t.fill ys u.data· l g.all; told = g.told })
mode-more false st region hd active t tail u ys e l h =
    let g = subst (λ (s : Stage). Mode false s region hd active t tail u) e h in
    (g.0, idle-more t tail u _ ys l g.1)

close-lies : (t : Contents) (tail : List ℕ) (u : Update) (b : List ℕ) (st : Stage) → Lies st t tail u b → Lies st (closed_contents t) tail u b
close-lies t tail u b Idle h = h
close-lies t tail u b (Due (Erase zero)) h = h
close-lies t tail u b (Due (Erase (suc j))) h = h
close-lies t tail u b (Due (Write i j)) h = h
close-lies t tail u b (Due (Compare i j)) h = h
close-lies t tail u b HeaderWritten h = h
close-lies t tail u b Committed h = h

mode-closed : (c : Bool) (st : Stage) (region : List ℕ) (hd active : Result (Option Bank) Refusal) (t : Contents) (tail : List ℕ) (u : Update) → Mode c st region hd active t tail u → Mode c st region hd active (closed_contents t) tail u
mode-closed true st region hd active t tail u h = h
mode-closed false st region hd active t tail u h = (h.0, close-lies t tail u _ st h.1)

module _ (region : List ℕ) (hd : Result (Option Bank) Refusal) (w : Writer) (u : Update) (o : Open region hd w u) where
  own : Ranged w
  own = ranged w o.tied.range

  may-open : may_append w ≡ true → w.contents.closed ≡ false
  may-open e = not-true w.contents.closed (and_right (in_range w) (not w.contents.closed) e)

  -- ---- bytes

  pub with-bytes : (ys : List ℕ) → Bytes ys → w.contents.closed ≡ false → is_due w.contents ≡ false → w.contents.fill + length ys ≤ tail_size → position w.contents + length ys ≤ capacity
      → Open region hd (with_bytes w ys) (with_appended ys u)
  unfolding with_bytes
  with-bytes ys b e d f p =
      let t = w.contents in
      let q = o.tied.noted in
      let l = o.tied.counted.length· in
      let st = only-idle w.beginning.comparing t w.stage own.stage e d in
      let al = open-aligned t own.contents e in
      record {
        tied =
            record {
              range = keeps-bytes w o.tied.range ys e f p;
              began = o.tied.began;
              counted =
                  record {
                    length· = length-append u.data· ys ∙ omega arith;
                    crc = ap (λ (c : ℕ). crc32 c ys) o.tied.counted.crc ∙ crc32-append 0 u.data· ys;
                  };
              noted =
                  record {
                    records = λ zs. ap (λ (x : List ℕ). records_after x [] 0 0 u.notes) (append_assoc u.data· ys zs) ∙ q.records (ys ++ zs);
                    proper = q.proper;
                    sources = q.sources;
                    table = λ g.
                        let r = q.table g in
                        let k = open-table (position t) w.tables own.tables g in
                        record {
                          table = r.table;
                          start = r.start;
                          crc =
                              ap (λ (c : ℕ). crc32 c ys) r.crc
                              ∙ crc32-append 0 (drop w.tables.start u.data·) ys
                              ∙ ap (crc32 0) (sym (drop-append-le w.tables.start u.data· ys (omega (arith, k.2))));
                        };
                  };
              tailed =
                  record {
                    length· = length-sets w.tail t.fill ys ∙ o.tied.tailed.length·;
                    bytes = bytes-sets ys w.tail t.fill o.tied.tailed.bytes b;
                  };
              ended = λ c. true-false w.contents.closed c e;
            };
        mode =
            mode-stage w.beginning.comparing region hd w.beginning.active (more_contents t ys) (sets w.tail t.fill ys) (with_appended ys u) al
            (mode-more w.beginning.comparing w.stage region hd w.beginning.active t w.tail u ys st (omega (arith, o.tied.tailed.length·)) o.mode);
      }

  none-appended : Open region hd w (with_appended [] u)
  none-appended = subst (Open region hd w) (sym (with_appended-nil u)) o

  appended-by : (xs : List ℕ) → Bytes xs → w.contents.closed ≡ false → position w.contents + length xs ≤ capacity → (n : ℕ) → n ≡ accepted w.contents (length xs) → (d : Bool) → is_due w.contents ≡ d
      → Open region hd (pick {A = Step} d (record { answer = Ok (Appended 0); writer = w }) (record { answer = Ok (Appended n); writer = with_bytes w (take n xs) })).writer
      (update_after (bytes xs) (pick {A = Step} d (record { answer = Ok (Appended 0); writer = w }) (record { answer = Ok (Appended n); writer = with_bytes w (take n xs) })).answer u)
  unfolding update_after
  appended-by xs b e p n r true d = none-appended
  appended-by xs b e p n r false d =
      let l = length-take n xs in
      let f = fill-fits w.contents own.contents in
      with-bytes (take n xs) (bytes_take n xs b) e d (omega arith) (omega arith)

  bytes-by : (xs : List ℕ) → Bytes xs → (a f : Bool) → may_append w ≡ a → leb (position w.contents + length xs) capacity ≡ f
      → Open region hd (pick a (pick f (appended w xs) (stays w Full)) (stays w Turn)).writer (update_after (bytes xs) (pick a (pick f (appended w xs) (stays w Full)) (stays w Turn)).answer u)
  unfolding update_after appended
  bytes-by xs b true true e f =
      appended-by xs b (may-open e) (leb-true (position w.contents + length xs) capacity f) (accepted w.contents (length xs)) refl (is_due w.contents) refl
  bytes-by xs b true false e f = o
  bytes-by xs b false f' e f = o

  pub on-bytes : (xs : List ℕ) → Bytes xs → Open region hd (bytes_step w xs).writer (update_after (bytes xs) (bytes_step w xs).answer u)
  unfolding bytes_step
  on-bytes xs b = bytes-by xs b (may_append w) (leb (position w.contents + length xs) capacity) refl refl

  -- ---- closing

  closing-mode : w.contents.closed ≡ false → (d : Bool) → is_due w.contents ≡ d
      → Mode w.beginning.comparing (pick d w.stage (stage_of w.beginning.comparing (closed_contents w.contents))) region hd w.beginning.active (closed_contents w.contents) w.tail u
  closing-mode e true d = mode-closed w.beginning.comparing w.stage region hd w.beginning.active w.contents w.tail u o.mode
  closing-mode e false d =
      let c = w.beginning.comparing in
      let t = w.contents in
      let st = only-idle c t w.stage own.stage e d in
      mode-stage c region hd w.beginning.active (closed_contents t) w.tail u (open-aligned t own.contents e)
      (subst (λ (s : Stage). Mode c s region hd w.beginning.active (closed_contents t) w.tail u) st (mode-closed c w.stage region hd w.beginning.active t w.tail u o.mode))

  pub with-closed : w.contents.closed ≡ false → not (is_open w.tables) ≡ true → Open region hd (with_closed w) u
  unfolding with_closed
  with-closed e n =
      record {
        tied =
            record {
              range = keeps-closed w o.tied.range e;
              began = o.tied.began;
              counted = record { length· = o.tied.counted.length·; crc = o.tied.counted.crc };
              noted = o.tied.noted;
              tailed = o.tied.tailed;
              ended = λ c. not-true (is_open w.tables) n;
            };
        mode = closing-mode e (is_due w.contents) refl;
      }

  close-by : (a : Bool) → (may_append w && not (is_open w.tables)) ≡ a → Open region hd (pick a (did (with_closed w)) (stays w Turn)).writer (update_after close (pick a (did (with_closed w)) (stays w Turn)).answer u)
  unfolding update_after
  close-by true e = with-closed (may-open (and_left (may_append w) (not (is_open w.tables)) e)) (and_right (may_append w) (not (is_open w.tables)) e)
  close-by false e = o

  pub on-close : Open region hd (close_step w).writer (update_after close (close_step w).answer u)
  unfolding close_step
  on-close = close-by (may_append w && not (is_open w.tables)) refl
