-- LF and CRLF end the same rows: a row is its fields, commas between them, and a row end, and the fields are read alike before either. No field's own
-- bytes end in CR: a byte without quotes is text, and a field with quotes ends in one. So the CR before an LF is the row end's.
use Prim.Native.Nat.{ℕ}
use native.Mathlib.Omega.{arith}
use mathlib.Core.Bool.{true, true≢false}
use mathlib.Core.Path.{◌≡◌, refl, sym, ap, ◌∙◌}
use mathlib.Core.List.{List, [], ◌∷◌, ◌++◌, append_assoc}
use lib.ListN.{length, take, length-append}
use lib.Seq.{take-append_seam}
use Rattle.rfc4180.specs.Csv.{is_text, NonEscaped, none, text, Inner, close, byte, twice, Field, escaped, non_escaped, RowEnd, lf, crlf, Record, last, more, quote, comma, carriage_return, line_feed}
use Rattle.rfc4180.specs.Read.{row, values}
use Rattle.rfc4180.specs.Claims.{last_of}
use Rattle.rfc4180.proofs.Grammar.{sound, complete}

abbrev Text : Type 0
Text = List ℕ

-- ---- the last byte

last-append : (p : Text) (b : ℕ) (r : Text) → last_of (p ++ (b ∷ r)) ≡ last_of (b ∷ r)
unfolding last_of
last-append [] b r = refl
last-append (x ∷ []) b r = refl
last-append (x ∷ y ∷ p) b r = last-append (y ∷ p) b r

no-cr-more : (b : ℕ) (p : Text) → (b ≡ carriage_return → ⊥) → (last_of p ≡ carriage_return → ⊥) → last_of (b ∷ p) ≡ carriage_return → ⊥
unfolding last_of
no-cr-more b [] n m = n
no-cr-more b (c ∷ p) n m = m

quote-more : (b : ℕ) (p : Text) → last_of p ≡ quote → last_of (b ∷ p) ≡ quote
unfolding last_of
quote-more b [] e = absurd (omega arith)
quote-more b (c ∷ p) e = e

-- ---- a field's own bytes, which don't end in CR

text-no-cr : (b : ℕ) → is_text b ≡ true → b ≡ carriage_return → ⊥
unfolding is_text
text-no-cr b h e = true≢false (sym (rw e at h))

plain-own : {bs v r : Text} → NonEscaped bs v r → (p : Text) × (bs ≡ p ++ r) × ((s : Text) → NonEscaped (p ++ s) v s) × (last_of p ≡ carriage_return → ⊥)
unfolding last_of
plain-own none = ([], refl, λ s. none, λ e. omega arith)
plain-own (text {b = b} h q) = let f = plain-own q in (b ∷ f.0, ap (λ (l : Text). b ∷ l) f.1, λ s. text h (f.2 s), no-cr-more b f.0 (text-no-cr b h) f.3)

inner-own : {bs v r : Text} → Inner bs v r → (p : Text) × (bs ≡ p ++ r) × ((s : Text) → Inner (p ++ s) v s) × (last_of p ≡ quote)
unfolding last_of
inner-own close = (quote ∷ [], refl, λ s. close, refl)
inner-own (byte {b = b} h q) = let f = inner-own q in (b ∷ f.0, ap (λ (l : Text). b ∷ l) f.1, λ s. byte h (f.2 s), quote-more b f.0 f.3)
inner-own (twice q) =
    let f = inner-own q in (quote ∷ quote ∷ f.0, ap (λ (l : Text). quote ∷ quote ∷ l) f.1, λ s. twice (f.2 s), quote-more quote (quote ∷ f.0) (quote-more quote f.0 f.3))

field-own : {bs v r : Text} → Field bs v r → (p : Text) × (bs ≡ p ++ r) × ((s : Text) → Field (p ++ s) v s) × (last_of p ≡ carriage_return → ⊥)
field-own (non_escaped q) = let f = plain-own q in (f.0, f.1, λ s. non_escaped (f.2 s), f.3)
field-own (escaped q) =
    let f = inner-own q in
    (quote ∷ f.0, ap (λ (l : Text). quote ∷ l) f.1, λ s. escaped (f.2 s), λ e. let z : quote ≡ carriage_return = sym (quote-more quote f.0 f.3) ∙ e in omega arith)

-- ---- a row's own bytes before its row end

pub data Which (bs own r : Text) : Type 0 where
  by-lf : bs ≡ own ++ (line_feed ∷ r) → Which bs own r
  by-crlf : bs ≡ own ++ (carriage_return ∷ line_feed ∷ r) → Which bs own r

pub record Ending (bs : Text) (vs : List Text) (r : Text) : Type 0 where
  pub own : Text
  pub which : Which bs own r
  pub again : (e s : Text) → RowEnd e s → Record (own ++ e) vs s
  pub no-cr : last_of own ≡ carriage_return → ⊥

which-of : {bs own e r : Text} → bs ≡ own ++ e → RowEnd e r → Which bs own r
which-of i lf = by-lf i
which-of i crlf = by-crlf i

which-more : {bs cs own r : Text} (p : Text) → bs ≡ p ++ (comma ∷ cs) → Which cs own r → Which bs (p ++ (comma ∷ own)) r
which-more {own = own} {r = r} p i (by-lf j) = by-lf (i ∙ ap (λ (l : Text). p ++ (comma ∷ l)) j ∙ sym (append_assoc p (comma ∷ own) (line_feed ∷ r)))
which-more {own = own} {r = r} p i (by-crlf j) = by-crlf (i ∙ ap (λ (l : Text). p ++ (comma ∷ l)) j ∙ sym (append_assoc p (comma ∷ own) (carriage_return ∷ line_feed ∷ r)))

pub ending : {bs r : Text} {vs : List Text} → Record bs vs r → Ending bs vs r
ending (last q e) = let f = field-own q in record { own = f.0; which = which-of f.1 e; again = λ d s g. last (f.2 d) g; no-cr = f.3 }
ending (more q g) =
    let f = field-own q in
    let h = ending g in
    record {
      own = f.0 ++ (comma ∷ h.own);
      which = which-more f.0 f.1 h.which;
      again = λ e s k. rw (append_assoc f.0 (comma ∷ h.own) e) (more (f.2 (comma ∷ h.own ++ e)) (h.again e s k));
      no-cr = λ e. no-cr-more comma h.own (λ z. omega arith) h.no-cr (sym (last-append f.0 comma h.own) ∙ e);
    }

-- ---- either row end

cancel : (p q x : Text) → p ++ x ≡ q ++ x → p ≡ q
cancel p q x e =
    let l : length p ≡ length q = omega (arith, ap length e, length-append p x, length-append q x) in
    sym (take-append_seam p x) ∙ ap (take (length p)) e ∙ ap (λ (n : ℕ). take n (q ++ x)) l ∙ take-append_seam q x

cr-last : (p q : Text) → p ≡ q ++ (carriage_return ∷ []) → last_of p ≡ carriage_return
unfolding last_of
cr-last p q e = ap last_of e ∙ last-append q carriage_return []

-- the bytes before an LF, if a CR is the last of them
with-cr : (p q r : Text) → p ++ (line_feed ∷ r) ≡ q ++ (carriage_return ∷ line_feed ∷ r) → last_of p ≡ carriage_return
with-cr p q r e = cr-last p q (cancel p (q ++ (carriage_return ∷ [])) (line_feed ∷ r) (e ∙ sym (append_assoc q (carriage_return ∷ []) (line_feed ∷ r))))

pub lf-to-crlf : (n : ℕ) (bs : Text) (vs : List Text) (r : Text) → (last_of bs ≡ carriage_return → ⊥) → values n (bs ++ (line_feed ∷ r)) ≡ row vs r
    → values n (bs ++ (carriage_return ∷ line_feed ∷ r)) ≡ row vs r
lf-to-crlf n bs vs r h e = go x.which
  where
    s : Record (bs ++ (line_feed ∷ r)) vs r × (length vs ≡ n)
    s = sound n (bs ++ (line_feed ∷ r)) vs r e

    x : Ending (bs ++ (line_feed ∷ r)) vs r
    x = ending s.0

    go : Which (bs ++ (line_feed ∷ r)) x.own r → values n (bs ++ (carriage_return ∷ line_feed ∷ r)) ≡ row vs r
    go (by-lf i) = let p : bs ≡ x.own = cancel bs x.own (line_feed ∷ r) i in rw (← s.1, p) (complete (x.again (carriage_return ∷ line_feed ∷ r) r crlf))
    go (by-crlf i) = absurd (h (with-cr bs x.own r i))

pub crlf-to-lf : (n : ℕ) (bs : Text) (vs : List Text) (r : Text) → values n (bs ++ (carriage_return ∷ line_feed ∷ r)) ≡ row vs r → values n (bs ++ (line_feed ∷ r)) ≡ row vs r
crlf-to-lf n bs vs r e = go x.which
  where
    s : Record (bs ++ (carriage_return ∷ line_feed ∷ r)) vs r × (length vs ≡ n)
    s = sound n (bs ++ (carriage_return ∷ line_feed ∷ r)) vs r e

    x : Ending (bs ++ (carriage_return ∷ line_feed ∷ r)) vs r
    x = ending s.0

    go : Which (bs ++ (carriage_return ∷ line_feed ∷ r)) x.own r → values n (bs ++ (line_feed ∷ r)) ≡ row vs r
    go (by-lf i) = absurd (x.no-cr (with-cr x.own bs r (sym i)))
    go (by-crlf i) = let p : bs ≡ x.own = cancel bs x.own (carriage_return ∷ line_feed ∷ r) i in rw (← s.1, p) (complete (x.again (line_feed ∷ r) r lf))
