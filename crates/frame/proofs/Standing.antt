-- A value's own bytes decide its end. A `Piece` is a string, an array or an object, by itself, in which at most d levels open; standing in any text, at
-- any place, with as many levels left or more, the machine goes from before a value to after it over those bytes (`piece-from`), says that it ends there
-- (`piece-one`), and the places do too (`piece-behind`). What the machine found to end is such a piece (`piece_of`). Cited by the read-back of `writing`.
-- Assumes nothing.
use mathlib.Core.Path.{◌≡◌, refl, sym, ap, subst, ◌∙◌}
use mathlib.Core.Logic.{inl, inr}
use mathlib.Core.Bool.{true, false}
use mathlib.Core.List.{List, [], ◌∷◌, ◌++◌}
use Prim.Native.Nat.{ℕ, ◌+◌, ◌-◌, ◌≤◌, ◌<◌}
use native.Mathlib.Omega.{arith}
use lib.ListN.{length, get_or, drop, take, length-append}
use lib.Seq.{take-append_seam}
use lib.Dec.{eqb}
use Rattle.json_text.specs.inner.Machine.{Stack, alone, levels, Mode, value, after, Next, live, step, over, takes, walk, from, one}
use Rattle.json_text.specs.Places.{behind, bytes, is_ws}
use Rattle.json_text.proofs.Listing.{Sized, Starts, behind-is, bytes-is}
use Rattle.json_text.proofs.OwnBytes.{run, walk-on, run-around, split}
use Rattle.json_text.proofs.ScanLaws.{Opener, Opened, opened-whole}
use Rattle.json_text.proofs.EndLaws.{walk-over, opened-at}
use Rattle.std.specs.Prelude.{Ok}

-- From the front of bs the machine comes to the front of t.
pub record Reach (bs : List ℕ) (m : Mode) (k : Stack) (t : List ℕ) (m' : Mode) (k' : Stack) : Type 0 where
  pub less : length t ≤ length bs
  pub same : (i : ℕ) → walk bs m k i ≡ walk t m' k' (i + (length bs - length t))

pub here : (t : List ℕ) (m : Mode) (k : Stack) → Reach t m k t m k
here t m k = record { less = omega arith; same = λ i. ap (walk t m k) (omega arith) }

pub trans : {a b c : List ℕ} {m₁ m₂ m₃ : Mode} {k₁ k₂ k₃ : Stack} → Reach a m₁ k₁ b m₂ k₂ → Reach b m₂ k₂ c m₃ k₃ → Reach a m₁ k₁ c m₃ k₃
trans {a} {b} {c} {m₁} {m₂} {m₃} {k₁} {k₂} {k₃} r q = record
    { less = omega (arith, r.less, q.less); same = λ i. r.same i ∙ q.same (i + (length a - length b)) ∙ ap (walk c m₃ k₃) (omega (arith, r.less, q.less)) }

pub hop : {b : ℕ} {t : List ℕ} {m m' : Mode} {k k' : Stack} → step m k b ≡ live m' k' → Reach (b ∷ t) m k t m' k'
unfolding walk
hop {b} {t} {m} {m'} {k} {k'} e = record { less = omega arith; same = λ i. ap (λ (n : Next). takes n (walk t) i) e ∙ ap (walk t m' k') (omega arith) }

pub ran : (v t : List ℕ) (m : Mode) (k : Stack) {m' : Mode} {k' : Stack} → run v m k ≡ live m' k' → Reach (v ++ t) m k t m' k'
ran v t m k {m'} {k'} e = record { less = omega (arith, length-append v t); same = λ i. walk-on v t i m k e ∙ ap (walk t m' k') (omega (arith, length-append v t)) }

-- v is a value in front of t, in which at most d levels open
pub record Val (d : ℕ) (v t : List ℕ) : Type 0 where
  pub sized : Sized v t
  pub goes : (k : Stack) → d ≤ levels k → Reach (v ++ t) value k t after k

-- a string, an array or an object, by itself
pub record Piece (d : ℕ) (v : List ℕ) : Type 0 where
  pub opened : Opened v
  pub runs : run v value (alone d) ≡ live after (alone d)

opener_starts : (b : ℕ) → Opener b → (is_ws b ≡ false) × (eqb b 93 ≡ false)
unfolding is_ws
opener_starts b (inl h) = (rw h, rw h)
opener_starts b (inr (inl h)) = (rw h, rw h)
opener_starts b (inr (inr h)) = (rw h, rw h)

opened-starts : (v : List ℕ) → Opened v → Starts v
opened-starts [] o = o
opened-starts (b ∷ v) o = opener_starts b o

-- THE LAW, for the places: its own bytes are its size, whatever follows
pub piece-sized : (d : ℕ) (v t : List ℕ) → Piece d v → Sized v t
piece-sized d v t p = record { starts = opened-starts v p.opened; ends = (opened-whole d v t after p.opened refl p.runs).ends }

-- and for the machine: over its own bytes it goes from before a value to after it
pub piece-run : (d : ℕ) (v : List ℕ) (k : Stack) → Piece d v → d ≤ levels k → run v value k ≡ live after k
piece-run d v k p l = run-around d v k p.runs l

pub piece-val : (d : ℕ) (v t : List ℕ) → Piece d v → Val d v t
piece-val d v t p = record { sized = piece-sized d v t p; goes = λ k l. ran v t value k (piece-run d v k p l) }

-- At any place of any text.
module _ (d : ℕ) (v t s : List ℕ) (a : ℕ) (p : Piece d v) (e : drop a s ≡ v ++ t) where
  pub piece-behind : behind s a ≡ a + length v
  piece-behind = behind-is s v t a (piece-sized d v t p) e

  pub piece_bytes : bytes s a ≡ v
  piece_bytes = bytes-is s v t a (piece-sized d v t p) e

-- Back: bytes that begin with a string, an array or an object that ends.
pub record Cut (d : ℕ) (bs : List ℕ) (i e : ℕ) : Type 0 where
  pub v : List ℕ
  pub q : List ℕ
  pub is : bs ≡ v ++ q
  pub far : e ≡ i + length v
  pub piece : Piece d v

opened-front : (d b : ℕ) (bs v q : List ℕ) (m' : Mode) → b ∷ bs ≡ v ++ q → run v value (alone d) ≡ live m' (alone d) → over m' ≡ true → Opener b → Opened v
unfolding run
opened-front d b bs [] q m' e r f o = let g : value ≡ m' = cc in let y : over value ≡ true = ap over g ∙ f in let z : ◌≡◌ {A = ℕ} 0 1 = cc in absurd (omega arith)
opened-front d b bs (x ∷ v) q m' e r f o = let g : b ≡ x = cc in subst Opener g o

pub cut : (d b : ℕ) (bs : List ℕ) (i e : ℕ) → Opener b → walk (b ∷ bs) value (alone d) i ≡ Ok e → Cut d (b ∷ bs) i e
cut d b bs i e o h =
    let r = split d (b ∷ bs) i e h in
    let p = opened-front d b bs r.v r.q r.m' r.is r.runs r.fin o in
    let w = opened-whole d r.v [] r.m' p r.fin r.runs in
    record { v = r.v; q = r.q; is = r.is; far = r.far; piece = record { opened = p; runs = r.runs ∙ ap (λ (m : Mode). live m (alone d)) w.done } }

same-front : (a a' t t' : List ℕ) → a ++ t ≡ a' ++ t' → length a ≡ length a' → a ≡ a'
same-front a a' t t' e l = sym (take-append_seam a t) ∙ ap (take (length a)) e ∙ ap (λ (n : ℕ). take n (a' ++ t')) l ∙ take-append_seam a' t'

-- what the machine goes over by itself in front of t, if it opens, is a piece
pub piece-by : (d : ℕ) (v t : List ℕ) → Opened v → Reach (v ++ t) value (alone d) t after (alone d) → Piece d v
piece-by d [] t o r = absurd o
piece-by d (b ∷ v) t o r =
    let z : 0 + (length ((b ∷ v) ++ t) - length t) ≡ length (b ∷ v) = omega (arith, length-append (b ∷ v) t) in
    let c = cut d b (v ++ t) 0 (length (b ∷ v)) o (r.same 0 ∙ walk-over t d _ ∙ ap Ok z) in
    let y : length (b ∷ v) ≡ length c.v = c.far ∙ omega arith in
    subst (Piece d) (sym (same-front (b ∷ v) c.v t c.q c.is y)) c.piece

pub val-piece : (d : ℕ) (v t : List ℕ) → Val d v t → Opened v → Piece d v
val-piece d v t h o = piece-by d v t o (h.goes (alone d) (omega arith))

-- THE CONVERSE, at a place of a text: where an opening byte stands and the machine says that the value ends at e, its bytes are a piece, and e is its end
pub record PieceAt (d : ℕ) (s : List ℕ) (a e : ℕ) : Type 0 where
  pub piece : Piece d (bytes s a)
  pub ends : behind s a ≡ e

piece_as : (d : ℕ) (s bs : List ℕ) (a e : ℕ) → drop a s ≡ bs → Opened bs → walk bs value (alone d) a ≡ Ok e → PieceAt d s a e
piece_as d s [] a e h o w = absurd o
piece_as d s (b ∷ bs) a e h o w =
    let c = cut d b bs a e o w in
    let g : drop a s ≡ c.v ++ c.q = h ∙ c.is in
    record { piece = subst (Piece d) (sym (piece_bytes d c.v c.q s a c.piece g)) c.piece; ends = piece-behind d c.v c.q s a c.piece g ∙ sym c.far }

pub piece_of : (d : ℕ) (s : List ℕ) (a e : ℕ) → a < length s → Opener (get_or s a 0) → one d s a ≡ Ok e → PieceAt d s a e
unfolding from
piece_of d s a e l o h = piece_as d s (drop a s) a e refl (opened-at s (drop a s) a refl l o) h
