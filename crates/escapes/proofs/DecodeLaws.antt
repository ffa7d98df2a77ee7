-- The loop of `decode`, a law for each way through it. Assumes nothing.
use Prim.Native.Nat.{ℕ, ◌+◌, ◌≤◌, ◌<◌}
use Rattle.escapes.proofs.LetterLaws.{sound-at, escape-room, text-own, text-escape, text-end}
use Rattle.escapes.proofs.StoreLaws.{over-nil, over-more}
use Rattle.escapes.specs.Encoding.{encoded}
use Rattle.escapes.specs.Rfc7159.{escape_of, text}
use Rattle.escapes.specs.Text.{over}
use Rattle.escapes.specs.declared.reading.Escape.{Escape}
use lib.ListN.{length, drop, get_or, length-append}
use lib.Seq.{sets}
use mathlib.Core.List.{List, [], ◌∷◌, ◌++◌, append_assoc, append-nil}
use mathlib.Core.Path.{◌≡◌, refl, sym, ap, ◌∙◌}
use native.Mathlib.Omega.{arith}

-- i bytes of s are read, and the n octets that they spell are over the front of o
pub record Sofar (s o out : List ℕ) (n i : ℕ) : Type 0 where
  pub done : List ℕ
  pub place : n ≡ length done
  pub short : n ≤ i
  pub inside : i ≤ length s
  pub is : out ≡ over o done
  pub rest : text s ≡ done ++ text (drop i s)

pub start : (s o : List ℕ) → Sofar s o o 0 0
start s o = record { done = []; place = refl; short = omega arith; inside = omega arith; is = sym (over-nil o); rest = refl }

-- t bytes more, which spell the octets w
step : {s o out : List ℕ} {n i : ℕ} (out' : List ℕ) (n' t : ℕ) (w : List ℕ) → Sofar s o out n i → text (drop i s) ≡ w ++ text (drop (i + t) s) →
    length w ≤ t → i + t ≤ length s → (n' ≡ n + length w) × (out' ≡ sets out n w) → Sofar s o out' n' (i + t)
step {s} {o} {out} {n} {i} out' n' t w p e h g f =
    let f0 = f.0 in
    let p0 = p.place in
    let p1 = p.short in
    record {
      done = p.done ++ w;
      place = f.0 ∙ rw p.place (sym (length-append p.done w));
      short = omega arith;
      inside = g;
      is = f.1 ∙ rw (p.is, p.place) (over-more o p.done w);
      rest = p.rest ∙ ap (λ (l : List ℕ). p.done ++ l) e ∙ sym (append_assoc p.done w (text (drop (i + t) s)));
    }

pub step-own : {s o out : List ℕ} {n i : ℕ} (out' : List ℕ) (n' : ℕ) → Sofar s o out n i → i < length s → (get_or s i 0 ≡ 92 → ⊥) →
    (n' ≡ n + 1) × (out' ≡ sets out n (get_or s i 0 ∷ [])) → Sofar s o out' n' (i + 1)
step-own {s} {i = i} out' n' p h ne f = step out' n' 1 (get_or s i 0 ∷ []) p (text-own s i h ne) (omega arith) (omega arith) f

pub step-escape : {s o out : List ℕ} {n i : ℕ} (out' : List ℕ) (n' : ℕ) (e : Escape) → Sofar s o out n i → i < length s → get_or s i 0 ≡ 92 → e ≡ escape_of (drop i s) →
    (n' ≡ n + length (encoded e.code)) × (out' ≡ sets out n (encoded e.code)) → Sofar s o out' n' (i + e.took)
step-escape {s} {i = i} out' n' e p h eq g f =
    step out' n' e.took (encoded e.code) p (text-escape s i h e g eq) (sound-at s i h e g).fits (escape-room s i h e g) f

pub ends : {s o out : List ℕ} {n i : ℕ} → Sofar s o out n i → length s ≤ i → (n ≡ length (text s)) × (out ≡ over o (text s))
ends {s} {o} {out} {n} {i} p h =
    let w : text s ≡ p.done = p.rest ∙ rw (text-end s i h) (append-nil p.done) in
    (p.place ∙ ap length (sym w), p.is ∙ ap (over o) (sym w))
