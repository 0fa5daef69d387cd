-- Every upper call, answered or cut, keeps the invariant, and so does every list of events: demand 3. An accepted call's run is a run of
-- lower calls that appends all of its bytes, so the history's note of the call and those of its run agree.
use mathlib.Core.Path.{◌≡◌, refl, sym, ap, ◌∙◌, subst}
use mathlib.Core.Bool.{Bool, true, false, not}
use mathlib.Core.List.{List, [], ◌∷◌, ◌++◌}
use Prim.Native.Nat.{ℕ, suc, ◌+◌, ◌*◌, ◌^◌, ◌≤◌, ◌<◌}
use native.Mathlib.Omega.{arith}
use borrow.Author.Tests.{leb-true, ltb-true}
use lib.Dec.{leb, ltb}
use lib.IntN.{ℤ}
use lib.ListN.{length, take, drop}
use mir.Syntax.{w64}
use mir.Val.{SFits}
use Rattle.leaf.proofs.Laws.{word_lt}
use Rattle.refusal.specs.declared.Refusal.{Refusal}
use Rattle.record.specs.declared.Source.{Source}
use Rattle.region.specs.Region.{region_size, capacity, bank_of, bank_size}
use Rattle.base.proofs.Bools.{and_left, and_right}
use Rattle.header.specs.Types.{Bytes, Proper}
use Rattle.bank.specs.Bank.{loaded, generation}
use Rattle.flash.specs.Flash.{performed}
use Rattle.writer.specs.declared.Answer.TheVariants.{Done}
use Rattle.writer.specs.declared.Writer.{Writer}
use Rattle.writer.specs.declared.Tables.{Tables}
use Rattle.writer.specs.declared.Step.{Step}
use Rattle.writer.specs.State.{position, is_open, is_due, target, in_range, did}
use Rattle.writer.proofs.Laws.{ranged, position-fits}
use Rattle.lower.specs.Lower.{may_append, may_begin, started, answer_of, with_source, source_step, with_table, table_step, with_end, end_step, with_closed, close_step}
use Rattle.lower.proofs.Laws.{source-done, table_done, end-done, close-done}
use Rattle.run.specs.Run.{Lower, source, table, end, close, lower_step, lower_ops, ran_writer, ran_region, ran_ops}
use Rattle.run.specs.Appends.{dues, appends}
use Rattle.upper.specs.Upper.{Upper, source_with_dates, table_with_names, row, table_end, closing, appended_bytes, lower_of, run_of, refusal_of, run_if, upper_run, answered, upper_step, upper_region, upper_ops, begin_refusal, key_bytes, begin_run, began_with, begin_step, begin_region, begin_ops}
use Rattle.powerloss.specs.History.{Update, source_note, table_note, end_note, opened, with_appended, notes_of, update_after, upper_noted, upper_after, after_upper, after_begin}
use Rattle.powerloss.specs.Machine.{cut_at, Image, Run, Event, begin, begin_cut, call, cut, begin_key, begin_key_cut, upper, upper_cut, on_upper, on_upper_cut, state_after, next, next_all, found}
use Rattle.powerloss.specs.Claim.{UpperTyped, Typed, AllTyped, Demand3}
use Rattle.powerloss.proofs.Bytes.{bytes-nil, bytes-cons, bytes_take, bytes_drop}
use Rattle.powerloss.proofs.Load.{load-own, load_read, valid-generation}
use Rattle.powerloss.proofs.Inv.{Small, Kept, Open, State}
use Rattle.powerloss.proofs.Quiet.{with_appended-nil, with-source, with-table, with-end, open-end}
use Rattle.powerloss.proofs.Lowers.{Inv, mk, inv-call, inv-cut, inv-begin, begun-open}
use Rattle.powerloss.proofs.Texts.{bytes-dates, bytes-names, bytes-row, bytes-key}
use Rattle.powerloss.proofs.Runs.{ran_update, AllPlain, Ran, ran}
use Rattle.powerloss.proofs.Answers.{region_three, writer_three, may-append, Accepted, accepted-by, open_of, fits-of, key_fits}
use Rattle.powerloss.proofs.Appends.{Now, Three, three, dues-update, appends-update, dues-appends}
use Rattle.header.specs.Header.{max_sources}
use Rattle.std.specs.Prelude.{Ok, Err, Some, None, Result, Option}
use Rattle.header.specs.declared.Bank.{Bank}

pub bytes-appended : (c : Upper) → UpperTyped c → Bytes (appended_bytes c)
unfolding appended_bytes
bytes-appended (source_with_dates s) p = bytes-dates s.start s.end
bytes-appended (table_with_names t) p = bytes-names t
bytes-appended (row texts lengths) p = bytes-row texts lengths p
bytes-appended table_end p = bytes-nil
bytes-appended closing p = bytes-nil

-- ---- the run of a call

pub plain-append : (xs ys : List Lower) → AllPlain xs → AllPlain ys → AllPlain (xs ++ ys)
plain-append [] ys h k = k
plain-append (x ∷ xs) ys h k = (h.0, plain-append xs ys h.1 k)

pub plain-dues : AllPlain dues
plain-dues = (tt, (tt, (tt, tt)))

pub plain-appends : (xs : List ℕ) → Bytes xs → AllPlain (appends xs)
unfolding appends
plain-appends [] b = tt
plain-appends (x ∷ xs) b = (bytes-cons x [] (b 0) bytes-nil, plain-append dues (appends xs) plain-dues (plain-appends xs (λ k. b (suc k))))

pub plain-lower : (c : Upper) → UpperTyped c → AllPlain (lower_of c)
plain-lower (source_with_dates s) p = (p, tt)
plain-lower (table_with_names t) p = (tt, tt)
plain-lower (row texts lengths) p = tt
plain-lower table_end p = (tt, tt)
plain-lower closing p = (tt, tt)

pub plain-run : (c : Upper) → UpperTyped c → AllPlain (run_of c)
unfolding run_of
plain-run c p =
    plain-append dues (lower_of c ++ (dues ++ appends (appended_bytes c))) plain-dues
    (plain-append (lower_of c) (dues ++ appends (appended_bytes c)) (plain-lower c p) (plain-append dues (appends (appended_bytes c)) plain-dues (plain-appends (appended_bytes c) (bytes-appended c p))))

module _ (hd : Result (Option Bank) Refusal) (rs : List Source) (im : Image) (region : List ℕ) (w : Writer) (u : Update) (h : Now hd rs im region w u) where
  -- one call that is answered and does no operation
  source-update : (s : Source) (cs : List Lower) → did (with_source w s) ≡ source_step w s → ran_update region w (source s ∷ cs) u ≡ ran_update region (with_source w s) cs (notes_of (source_note s) u)
  unfolding ran_update lower_ops lower_step performed update_after
  source-update s cs e = ap (λ (x : Step). ran_update region x.writer cs (update_after (source s) x.answer u)) (sym e)

  table-update : (t : ℕ) (cs : List Lower) → did (with_table w t) ≡ table_step w t → ran_update region w (table t ∷ cs) u ≡ ran_update region (with_table w t) cs (notes_of (table_note t (length u.data·)) u)
  unfolding ran_update lower_ops lower_step performed update_after
  table-update t cs e = ap (λ (x : Step). ran_update region x.writer cs (update_after (table t) x.answer u)) (sym e)

  end-update : (cs : List Lower) → did (with_end w) ≡ end_step w → ran_update region w (end ∷ cs) u ≡ ran_update region (with_end w) cs (notes_of (end_note (length u.data·)) u)
  unfolding ran_update lower_ops lower_step performed update_after
  end-update cs e = ap (λ (x : Step). ran_update region x.writer cs (update_after end x.answer u)) (sym e)

  close-update : (cs : List Lower) → did (with_closed w) ≡ close_step w → ran_update region w (close ∷ cs) u ≡ ran_update region (with_closed w) cs u
  unfolding ran_update lower_ops lower_step performed update_after
  close-update cs e = ap (λ (x : Step). ran_update region x.writer cs (update_after close x.answer u)) (sym e)

  -- the lower call of the same name, what is due, and the bytes
  module _ (e : w.contents.closed ≡ false) where
    may : may_append w ≡ true
    may = may-append w h.open·.tied.range e

    source-run : (s : Source) (xs : List ℕ) → Proper s → not (is_open w.tables) ≡ true → w.tables.count < max_sources → position w.contents + length xs ≤ capacity → Bytes xs
        → ran_update region w (source s ∷ (dues ++ appends xs)) u ≡ with_appended xs (notes_of (source_note s) u)
    unfolding with_source
    source-run s xs p n c f b =
        source-update s (dues ++ appends xs) (source-done w s (rw may n) c)
        ∙ dues-appends hd rs im xs region (with_source w s) (notes_of (source_note s) u) (record { kept = h.kept; open· = with-source region hd w u h.open· s p e c }) e f b

    table-run : (t : ℕ) (xs : List ℕ) → t ≤ 7 → may_begin w.tables t ≡ true → position w.contents + length xs ≤ capacity → Bytes xs
        → ran_update region w (table t ∷ (dues ++ appends xs)) u ≡ with_appended xs (notes_of (table_note t (length u.data·)) u)
    unfolding with_table
    table-run t xs l m f b =
        let c = leb-true 1 w.tables.count (and_left (leb 1 w.tables.count) _ (and_right (not (is_open w.tables)) _ m)) in
        table-update t (dues ++ appends xs) (table_done w t l (rw may m))
        ∙ dues-appends hd rs im xs region (with_table w t) (notes_of (table_note t (length u.data·)) u) (record { kept = h.kept; open· = with-table region hd w u h.open· t e l c }) e f b

    end-run : is_open w.tables ≡ true → ran_update region w (end ∷ (dues ++ appends [])) u ≡ with_appended [] (notes_of (end_note (length u.data·)) u)
    unfolding with_end
    end-run m =
        end-update (dues ++ appends []) (end-done w (rw h.open·.tied.range m))
        ∙ dues-appends hd rs im [] region (with_end w) (notes_of (end_note (length u.data·)) u) (record { kept = h.kept; open· = with-end region hd w u h.open· e m }) e
        (omega (arith, position-most)) bytes-nil
      where
        position-most : position w.contents ≤ capacity
        position-most = position-fits w.contents (ranged w h.open·.tied.range).contents

    close-run : not (is_open w.tables) ≡ true → ran_update region w (close ∷ (dues ++ appends [])) u ≡ with_appended [] u
    unfolding appends
    close-run m =
        close-update (dues ++ appends []) (close-done w (rw may m))
        ∙ dues-update region (with_closed w) [] u
        ∙ unfold ran_update in (sym (with_appended-nil u))

-- ---- the run of an accepted call appends all of its bytes and has the call's own note

module _ (hd : Result (Option Bank) Refusal) (rs : List Source) (im : Image) (region : List ℕ) (w : Writer) (u : Update) (h : Now hd rs im region w u) where
  t3 : Three hd rs im region w u
  t3 = three hd rs im region w u h

  run-update : (c : Upper) → UpperTyped c → Accepted region w c → ran_update region w (run_of c) u ≡ with_appended (appended_bytes c) (upper_noted c u)
  unfolding run_of
  run-update (source_with_dates s) p a =
      let m = and_left (may_append w) (not (is_open w.tables)) a.order in
      let n = and_right (may_append w) (not (is_open w.tables)) a.order in
      let c = source_with_dates s in
      dues-update region w (source s ∷ (dues ++ appends (appended_bytes c))) u
      ∙ source-run hd rs im (region_three region w) (writer_three region w) u t3.now (t3.after.closed ∙ open_of region w c a m) s (appended_bytes c) p
      (subst (λ (x : Tables). not (is_open x) ≡ true) (sym t3.after.tables) n)
      (subst (λ (x : Tables). x.count < max_sources) (sym t3.after.tables) (ltb-true w.tables.count 3 (and_left (ltb w.tables.count 3) (leb (position w.contents + length (appended_bytes c)) capacity) a.fits)))
      (fits-of region w c a) (bytes-appended c p)
  run-update (table_with_names t) p a =
      let m = and_left (may_append w) (may_begin w.tables t) a.order in
      let n = and_right (may_append w) (may_begin w.tables t) a.order in
      let c = table_with_names t in
      dues-update region w (table t ∷ (dues ++ appends (appended_bytes c))) u
      ∙ table-run hd rs im (region_three region w) (writer_three region w) u t3.now (t3.after.closed ∙ open_of region w c a m) t (appended_bytes c) (leb-true t 7 a.argument)
      (subst (λ (x : Tables). may_begin x t ≡ true) (sym t3.after.tables) n)
      (fits-of region w c a) (bytes-appended c p)
  run-update (row texts lengths) p a =
      let m = and_left (may_append w) (is_open w.tables) a.order in
      let c = row texts lengths in
      dues-update region w (dues ++ appends (appended_bytes c)) u
      ∙ dues-appends hd rs im (appended_bytes c) (region_three region w) (writer_three region w) u t3.now (t3.after.closed ∙ open_of region w c a m) (fits-of region w c a) (bytes-appended c p)
  run-update table_end p a =
      let n = and_right (in_range w) (is_open w.tables) a.order in
      unfold appended_bytes in
      (dues-update region w (end ∷ (dues ++ appends [])) u
      ∙ end-run hd rs im (region_three region w) (writer_three region w) u t3.now (t3.after.closed ∙ open-end region hd w u h.open· a.order) (subst (λ (x : Tables). is_open x ≡ true) (sym t3.after.tables) n))
  run-update closing p a =
      let m = and_left (may_append w) (not (is_open w.tables)) a.order in
      let n = and_right (may_append w) (not (is_open w.tables)) a.order in
      unfold appended_bytes in
      (dues-update region w (close ∷ (dues ++ appends [])) u
      ∙ close-run hd rs im (region_three region w) (writer_three region w) u t3.now (t3.after.closed ∙ open_of region w closing a m) (subst (λ (x : Tables). not (is_open x) ≡ true) (sym t3.after.tables) n))

-- ---- upper events

module _ (region : List ℕ) (hd : Result (Option Bank) Refusal) (rs : List Source) (im : Image) (w : Writer) (u : Update) (k : Kept region hd rs im) (o : Open region hd w u) where
  upper_by : (c : Upper) → UpperTyped c → (x : Option Refusal) → refusal_of region w c ≡ x
      → Inv (record {
        region = ran_region region w (run_if x (run_of c));
        state = Some (answered x (ran_writer region w (run_if x (run_of c)))).writer;
        history = after_upper c (answered x (ran_writer region w (run_if x (run_of c)))).answer (record { held = hd; records = rs; open· = Some u }) (Some u);
        image = im;
      })
  unfolding after_upper upper_after
  upper_by c p None e =
      let z = ran (run_of c) region hd rs im w u (plain-run c p) k o in
      record {
        kept = z.whole;
        open· =
            subst (Open (ran_region region w (run_of c)) hd (ran_writer region w (run_of c))) (run-update hd rs im region w u (record { kept = k; open· = o }) c p (accepted-by region w c e)) z.open·;
      }
  upper_by c p (Some r) e = unfold ran_region in (unfold ran_writer in (record { kept = k; open· = o }))

  upper-inv : (c : Upper) → UpperTyped c → Inv (on_upper c (mk region (Some w) hd rs (Some u) im) (Some w))
  unfolding on_upper upper_region upper_step upper_run
  upper-inv c p = upper_by c p (refusal_of region w c) refl

  upper-cut-by : (c : Upper) (i j : ℕ) → UpperTyped c → (x : Option Refusal) → Kept (cut_at (target w.beginning.active) i j (ran_ops region w (run_if x (run_of c))) region) hd rs im
  upper-cut-by c i j p None = (ran (run_of c) region hd rs im w u (plain-run c p) k o).cut i j
  upper-cut-by c i j p (Some r) = (ran [] region hd rs im w u tt k o).cut i j

  upper-cut-inv : (c : Upper) (i j : ℕ) → UpperTyped c → Inv (on_upper_cut c i j (mk region (Some w) hd rs (Some u) im) (Some w))
  unfolding on_upper_cut upper_ops upper_run
  upper-cut-inv c i j p = record { kept = upper-cut-by c i j p (refusal_of region w c); open· = tt }

inv-upper : (c : Upper) (region : List ℕ) (s : Option Writer) (hd : Result (Option Bank) Refusal) (rs : List Source) (v : Option Update) (im : Image) → UpperTyped c → Inv (mk region s hd rs v im) → Inv (on_upper c (mk region s hd rs v im) s)
inv-upper c region None hd rs v im p h = unfold on_upper in h
inv-upper c region (Some w) hd rs None im p h = absurd h.open·
inv-upper c region (Some w) hd rs (Some u) im p h = upper-inv region hd rs im w u h.kept h.open· c p

inv-upper-cut : (c : Upper) (i j : ℕ) (region : List ℕ) (s : Option Writer) (hd : Result (Option Bank) Refusal) (rs : List Source) (v : Option Update) (im : Image) → UpperTyped c → Inv (mk region s hd rs v im) → Inv (on_upper_cut c i j (mk region s hd rs v im) s)
inv-upper-cut c i j region None hd rs v im p h = unfold on_upper_cut in h
inv-upper-cut c i j region (Some w) hd rs None im p h = absurd h.open·
inv-upper-cut c i j region (Some w) hd rs (Some u) im p h = upper-cut-inv region hd rs im w u h.kept h.open· c i j p

-- ---- a beginning with a key

pub done-by : (region : List ℕ) (hd : Result (Option Bank) Refusal) → length region ≡ region_size → loaded region ≡ hd → answer_of hd ≡ Ok Done
done-by region (Ok (Some b)) l e = refl
done-by region (Ok None) l e = refl
done-by region (Err r) l e = absurd (load_read region r l e)

module _ (comparing : Bool) (now : ℤ) (identity texts lengths : List ℕ) (f : SFits w64 now) (bi : Bytes identity) (bt : Bytes texts) where
  key : List ℕ
  key = key_bytes identity texts lengths

  bytes-of-key : Bytes key
  unfolding key
  bytes-of-key = bytes-key identity texts lengths bi bt

  module _ (region : List ℕ) (hd : Result (Option Bank) Refusal) (rs : List Source) (im : Image) (k : Kept region hd rs im) where
    first-open : Open region hd (started hd comparing now) (opened hd now)
    first-open = subst (Open region hd (started hd comparing now)) (with_appended-nil (opened hd now)) (begun-open region hd rs im comparing now f k (done-by region hd k.size k.loads))

    key-run : Ran (appends key) region hd rs im (started hd comparing now) (opened hd now)
    key-run = ran (appends key) region hd rs im (started hd comparing now) (opened hd now) (plain-appends key bytes-of-key) k first-open

    key-update : begin_refusal region identity texts lengths ≡ None → ran_update region (started hd comparing now) (appends key) (opened hd now) ≡ with_appended key (opened hd now)
    unfolding started is_due key
    key-update e = appends-update hd rs im key region (started hd comparing now) (opened hd now) (record { kept = k; open· = first-open }) refl refl (omega (arith, (key_fits region identity texts lengths e).1)) bytes-of-key

    key-by : (s : Option Writer) (v : Option Update) → State region hd s v → (x : Option Refusal) → begin_refusal region identity texts lengths ≡ x
        → Inv (record {
          region = ran_region region (started hd comparing now) (run_if x (appends key));
          state = state_after (began_with x (ran_writer region (started hd comparing now) (run_if x (appends key))) comparing now).answer (began_with x (ran_writer region (started hd comparing now) (run_if x (appends key))) comparing now).writer s;
          history = after_begin now key (began_with x (ran_writer region (started hd comparing now) (run_if x (appends key))) comparing now).answer (record { held = hd; records = rs; open· = v });
          image = im;
        })
    unfolding after_begin
    key-by s v o None e =
        record {
          kept = key-run.whole;
          open· = subst (Open (ran_region region (started hd comparing now) (appends key)) hd (ran_writer region (started hd comparing now) (appends key))) (key-update e) key-run.open·;
        }
    key-by s v o (Some r) e = unfold ran_region in (record { kept = k; open· = o })

    key-cut-by : (i j : ℕ) (x : Option Refusal) → Kept (cut_at (target (started hd comparing now).beginning.active) i j (ran_ops region (started hd comparing now) (run_if x (appends key))) region) hd rs im
    key-cut-by i j None = key-run.cut i j
    key-cut-by i j (Some r) = (ran [] region hd rs im (started hd comparing now) (opened hd now) tt k first-open).cut i j

  inv-key : (region : List ℕ) (s : Option Writer) (hd : Result (Option Bank) Refusal) (rs : List Source) (v : Option Update) (im : Image) → Inv (mk region s hd rs v im)
      → Inv (next (mk region s hd rs v im) (begin_key comparing now identity texts lengths))
  unfolding next begin_step begin_region begin_run key
  inv-key region s hd rs v im h = rw h.kept.loads (key-by region hd rs im h.kept s v h.open· (begin_refusal region identity texts lengths) refl)

  inv-key-cut : (i j : ℕ) (region : List ℕ) (s : Option Writer) (hd : Result (Option Bank) Refusal) (rs : List Source) (v : Option Update) (im : Image) → Inv (mk region s hd rs v im)
      → Inv (next (mk region s hd rs v im) (begin_key_cut comparing now identity texts lengths i j))
  unfolding next begin_ops begin_run key
  inv-key-cut i j region s hd rs v im h =
      rw h.kept.loads (record { kept = key-cut-by region hd rs im h.kept i j (begin_refusal region identity texts lengths); open· = tt })

-- ---- every list

pub inv-next : (r : Run) (e : Event) → Typed e → Inv r → Inv (next r e)
inv-next r (begin c now) p h = inv-begin c now r.region r.state r.history.held r.history.records r.history.open· r.image p h
inv-next r (begin_cut c now) p h = unfold next in (record { kept = h.kept; open· = tt })
inv-next r (call c) p h = unfold next in (inv-call c r.region r.state r.history.held r.history.records r.history.open· r.image p h)
inv-next r (cut c i j) p h = unfold next in (inv-cut c i j r.region r.state r.history.held r.history.records r.history.open· r.image p h)
inv-next r (begin_key c now identity texts lengths) p h =
    inv-key c now identity texts lengths p.0 p.1 p.2 r.region r.state r.history.held r.history.records r.history.open· r.image h
inv-next r (begin_key_cut c now identity texts lengths i j) p h =
    inv-key-cut c now identity texts lengths p.0 p.1 p.2 i j r.region r.state r.history.held r.history.records r.history.open· r.image h
inv-next r (upper c) p h = unfold next in (inv-upper c r.region r.state r.history.held r.history.records r.history.open· r.image p h)
inv-next r (upper_cut c i j) p h = unfold next in (inv-upper-cut c i j r.region r.state r.history.held r.history.records r.history.open· r.image p h)

pub inv-all : (es : List Event) (r : Run) → AllTyped es → Inv r → Inv (next_all r es)
unfolding next_all
inv-all [] r p h = h
inv-all (e ∷ es) r p h = inv-all es (next r e) p.1 (inv-next r e p.0 h)

-- at the start
small_by : (region : List ℕ) (hd : Result (Option Bank) Refusal) → length region ≡ region_size → Bytes region → loaded region ≡ hd → Small hd
unfolding generation bank_of
small_by region (Ok (Some b)) l y e =
    let o = load-own region b l e in
    let n = b.number in
    subst (λ (x : ℕ). x < 2 ^ 32) (sym (valid-generation region n b l o.number o.valid))
    (word_lt (take bank_size (drop (n * bank_size) region)) 8 (bytes_take bank_size (drop (n * bank_size) region) (bytes_drop (n * bank_size) region y)))
small_by region (Ok None) l y e = tt
small_by region (Err r) l y e = tt

pub inv-found : (region : List ℕ) → length region ≡ region_size → Bytes region → Inv (found region)
unfolding found
inv-found region l y =
    record {
      kept = record { size = l; loads = refl; records = refl; image = refl; given = tt; small = small_by region (loaded region) l y refl };
      open· = tt;
    }

pub demand3 : Demand3
demand3 region events l y p =
    let h = inv-all events (found region) p (inv-found region l y) in
    record { loads = h.kept.loads; records = h.kept.records; image = h.kept.image; given = h.kept.given }
