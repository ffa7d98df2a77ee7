-- Parts written one after the other, and what becomes of a result that fits or does not. Assumes nothing.
use Prim.Native.Nat.{ℕ, ◌+◌, ◌-◌, ◌≤◌, ◌<◌}
use Rattle.json_text.specs.Places.{part}
use Rattle.octets.proofs.Chain.{At}
use Rattle.octets.specs.Ascii.{ascii}
use Rattle.octets.specs.Splice.{splice}
use Rattle.rules.proofs.StatusLaws.{length-is, none_is}
use Rattle.rules.specs.Status.{codes, index_in, status_text}
use Rattle.std.specs.Prelude.{Ok, Err}
use Rattle.writing.specs.Adding.{entry}
use Rattle.writing.specs.Outcome.{write, fitted, put, Writes}
use Rattle.writing.specs.Reply.{reply_text}
use Rattle.writing.specs.declared.answers.Refusal.TheVariants.{Long, Room}
use borrow.Author.Tests.{le-leb, lt-leb, lt-ltb, le-ltb, ltb-true, ltb-false}
use lib.Dec.{ltb}
use lib.ListN.{length, take, drop, length-append, length-take, length-drop}
use lib.Seq.{take-append_seam, take_all}
use mathlib.Core.Bool.{Bool, true, false}
use mathlib.Core.List.{List, [], ◌∷◌, ◌++◌, append-nil, append_assoc}
use mathlib.Core.Path.{◌≡◌, refl, sym, ap, ◌∙◌}
use native.Mathlib.Omega.{arith}

-- Refused, or done.
module _ (o w : List ℕ) (n : ℕ) (e : n ≡ length w) where
  pub too_long : 32768 < n → Writes o (write w) (Err Long) o
  unfolding fitted put
  too_long h = record { answer = rw (lt-ltb 32768 (length w) (omega arith)); output = rw (lt-leb (length w) 32768 (omega arith)) }

  pub no_room : n ≤ 32768 → length o < n → Writes o (write w) (Err Room) o
  unfolding fitted put
  no_room h g = record {
    answer = rw (le-ltb 32768 (length w) (omega arith), lt-ltb (length o) (length w) (omega arith));
    output = rw (le-leb (length w) 32768 (omega arith), lt-leb (length w) (length o) (omega arith));
  }

  pub done : {out : List ℕ} {r : ℕ} → n ≤ 32768 → n ≤ length o → At o w out r → Writes o (write w) (Ok r) out
  unfolding fitted put
  done {out} {r} h g a =
      record {
        answer = rw (le-ltb 32768 (length w) (omega arith), le-ltb (length o) (length w) (omega arith), a.place);
        output = rw (le-leb (length w) 32768 (omega arith), le-leb (length w) (length o) (omega arith)) a.is;
      }

-- The texts: how long they are, and the parts that they are put in.
pub reply-long : (status cseq to from call date via : List ℕ)
    → length (reply_text status cseq to from call date via) ≡ 76 + length status + length date + length cseq + length to + length from + length call + length via
unfolding reply_text
reply-long status cseq to from call date via = simp length-append (omega arith)

-- s with our entry put in at a place
abbrev pub with_entry : List ℕ → ℕ → List ℕ → List ℕ → List ℕ → List ℕ
with_entry s end host destination organization = take end s ++ ((44 ∷ entry host destination organization) ++ drop end s)

pub halves : (s : List ℕ) (n : ℕ) → length (take n s) + length (drop n s) ≡ length s
halves s n = simp (length-take, length-drop) (omega arith)

-- the two parts of s
sub-none : (n : ℕ) → n - 0 ≡ n
sub-none n = omega arith

pub front-part : (s : List ℕ) (n : ℕ) → part s 0 n ≡ take n s
unfolding part
front-part s n = rw (sub-none n)

pub back-part : (s : List ℕ) (n : ℕ) → part s n (length s) ≡ drop n s
unfolding part
back-part s n = take_all (length s - n) (drop n s) (rw length-drop (omega arith))

grouped : (a k₁ h k₂ d k₃ g k₄ b : List ℕ)
    → a ++ ((k₁ ++ (h ++ (k₂ ++ (d ++ (k₃ ++ (g ++ k₄)))))) ++ b) ≡ a ++ (k₁ ++ (h ++ (k₂ ++ (d ++ (k₃ ++ (g ++ (k₄ ++ (b ++ []))))))))
grouped a k₁ h k₂ d k₃ g k₄ b = simp (append_assoc, append-nil)

module _ (s : List ℕ) (at end : ℕ) {a b : List ℕ} (e : a ≡ part s 0 at) (f : b ≡ part s end (length s)) where
  -- s less what stands between the two
  pub removed-parts : take at s ++ drop end s ≡ a ++ (b ++ [])
  removed-parts = rw (e ∙ front-part s at, f ∙ back-part s end, append-nil)

-- s with our entry between the two
pub added-parts : (s : List ℕ) (end : ℕ) (h d g : List ℕ) {a b : List ℕ} → a ≡ part s 0 end → b ≡ part s end (length s)
    → take end s ++ ((44 ∷ entry h d g) ++ drop end s) ≡ a
    ++ (ascii ",{\"host\":\"" ++ (h ++ (ascii "\",\"destination\":\"" ++ (d ++ (ascii "\",\"organization\":\"" ++ (g ++ (ascii "\"}" ++ (b ++ []))))))))
unfolding entry
added-parts s end h d g {a} {b} e f =
    rw (sym (e ∙ front-part s end), sym (f ∙ back-part s end))
    (grouped a (ascii ",{\"host\":\"") h (ascii "\",\"destination\":\"") d (ascii "\",\"organization\":\"") g (ascii "\"}") b)

-- the text of a status, and the front of a buffer that it was put in
short : (code k : ℕ) → k ≡ index_in codes code → (b : Bool) → ltb k 14 ≡ b → length (status_text code) ≤ 35
short code k e true h = let p = length-is k code e (ltb-true k 14 h) in omega (arith, p.0, p.1)
short code k e false h = let p = none_is k code e (ltb-false k 14 h) in omega (arith, ap length p)

pub status-short : (code : ℕ) → length (status_text code) ≤ 35
status-short code = short code (index_in codes code) refl (ltb (index_in codes code) 14) refl

pub put-front : (o w : List ℕ) {o' : List ℕ} {n : ℕ} → (n ≡ 0 + length w) × (o' ≡ splice o 0 w) → take n o' ≡ w
unfolding splice
put-front o w {o'} {n} e = let z : n ≡ length w = omega (arith, e.0) in rw (z, e.1) (take-append_seam w (drop (0 + length w) o))
