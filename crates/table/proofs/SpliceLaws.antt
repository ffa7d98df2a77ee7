-- Parts written into a list one behind the other, and one within another. Assumes nothing.
use Prim.Native.Nat.{ℕ, zero, suc, ◌+◌, ◌-◌, ◌≤◌, ◌<◌}
use Rattle.octets.proofs.Chain.{length-splice, set-one, splice-two}
use Rattle.octets.specs.Splice.{splice}
use borrow.Rule.Slice.PartMut.{put_mid}
use lib.ListN.{length, take, drop, set, replicate, length-append, length-drop, length-replicate, take-append-drop, drop_of_length-le, replicate-append-replicate}
use lib.Seq.{length-take-le, take_at, drop_at, take-append-le, drop-append-le, take-append-add, drop-append-add, drop-drop, take-take, take-nil}
use mathlib.Core.List.{List, [], ◌∷◌, ◌++◌, append_assoc, append-nil}
use mathlib.Core.Path.{◌≡◌, sym, ap, ◌∙◌}
use native.Mathlib.Nat.{zero-add, suc-add}
use native.Mathlib.Omega.{arith}

-- a part is cut from the front that holds it
pub take_of_drop : (n m : ℕ) (l : List ℕ) → take m (drop n l) ≡ drop n (take (n + m) l)
take_of_drop zero m l = rw zero-add
take_of_drop (suc n) m [] = rw (suc-add n m) (take-nil m)
take_of_drop (suc n) m (x ∷ l) = rw (suc-add n m) (take_of_drop n m l)

-- one part within another
pub inside : (o : List ℕ) (b : ℕ) (x : List ℕ) (off : ℕ) (p : List ℕ) → b + length x ≤ length o → off + length p ≤ length x
    → splice (splice o b x) (b + off) p ≡ splice o b (splice x off p)
unfolding splice
inside o b x off p h g =
    let a : List ℕ = take b o in
    let d : List ℕ = drop (b + length x) o in
    let l : length a ≡ b = length-take-le b o (omega arith) in
    let m : length (take off x ++ (p ++ drop (off + length p) x)) ≡ length x = length-splice x off p g in
    let q : b + off + length p ≡ b + (off + length p) = omega arith in
    let e : take (b + off) (a ++ (x ++ d)) ≡ a ++ take off x =
    ap (λ (n : ℕ). take (n + off) (a ++ (x ++ d))) (sym l) ∙ take-append-add a (x ++ d) off ∙ rw (take-append-le off x d (omega arith)) in
    let r : drop (b + (off + length p)) (a ++ (x ++ d)) ≡ drop (off + length p) x ++ d =
    ap (λ (n : ℕ). drop (n + (off + length p)) (a ++ (x ++ d))) (sym l) ∙ drop-append-add a (x ++ d) (off + length p) ∙ drop-append-le
    (off + length p) x d g in
    rw (e, q, r, m) (simp append_assoc)

-- what stands where a part is written is that part
pub splice-itself : (o : List ℕ) (b n : ℕ) → b + n ≤ length o → splice o b (take n (drop b o)) ≡ o
unfolding splice
splice-itself o b n h =
    let l : length (take n (drop b o)) ≡ n = length-take-le n (drop b o) (rw length-drop (omega arith)) in
    rw (l, ← drop-drop n b o, take-append-drop n (drop b o)) (take-append-drop b o)

-- the part that was written
pub splice-part : (o : List ℕ) (b : ℕ) (p : List ℕ) (n : ℕ) → b ≤ length o → length p ≡ n → take n (drop b (splice o b p)) ≡ p
unfolding splice
splice-part o b p n h l =
    let a : length (take b o) ≡ b = length-take-le b o h in
    rw (drop_at (take b o) (p ++ drop (b + length p) o) b a, take_at p (drop (b + length p) o) n l)

-- a part before it, and a part behind it
pub splice-before : (o : List ℕ) (b : ℕ) (p : List ℕ) (n : ℕ) → n ≤ b → b ≤ length o → take n (splice o b p) ≡ take n o
unfolding splice
splice-before o b p n g h =
    let a : length (take b o) ≡ b = length-take-le b o h in
    rw (take-append-le n (take b o) (p ++ drop (b + length p) o) (omega arith), take-take n b o g)

pub splice-behind : (o : List ℕ) (b : ℕ) (p : List ℕ) (m n : ℕ) → length p ≡ m → b ≤ length o
    → drop (b + m + n) (splice o b p) ≡ drop (b + m + n) o
unfolding splice
splice-behind o b p m n l h =
    let f : List ℕ = take b o ++ p in
    let d : List ℕ = drop (b + length p) o in
    let a : length f ≡ b + m = length-append (take b o) p ∙ rw (length-take-le b o h, l) in
    rw (← append_assoc (take b o) p d)
    (ap (λ (i : ℕ). drop (i + n) (f ++ d)) (sym a) ∙ drop-append-add f d n ∙ rw l (drop-drop n (b + m) o))

-- all of it written
pub splice-whole : (o p : List ℕ) → length o ≡ length p → splice o 0 p ≡ p
unfolding splice
splice-whole o p e = rw (drop_of_length-le o {i = 0 + length p} (omega arith)) (append-nil p)

-- parts written from b on: w so far, m bytes long, and the list is out
pub record Run (o : List ℕ) (b : ℕ) (w : List ℕ) (m : ℕ) (out : List ℕ) : Type 0 where
  pub is : out ≡ splice o b w
  pub long : length w ≡ m

pub further : {o : List ℕ} {b : ℕ} {w : List ℕ} {m : ℕ} {out out' : List ℕ} {n : ℕ} (p : List ℕ) (j : ℕ) → Run o b w m out
    → b + m ≤ length o
    → length p ≡ j → n ≡ b + m → out' ≡ splice out n p → Run o b (w ++ p) (m + j) out'
further {o} {b} {w} {m} {out} {out'} {n} p j r h l e q =
    let v : length w ≡ m = r.long in
    let k : n ≡ b + length w = omega arith in
    record {
      is = q ∙ rw (r.is, k) (splice-two o b w p (omega arith));
      long = length-append w p ∙ rw (v, l);
    }

-- a part filled where it stands
pub cleared : (o : List ℕ) (a e : ℕ) {p : List ℕ} → a ≤ e → e ≤ length o → p ≡ replicate (length (take (e - a) (drop a o))) 0
    → put_mid a (e - a) o p ≡ splice o a (replicate (e - a) 0)
unfolding splice
cleared o a e {p} h g q =
    let l : length (take (e - a) (drop a o)) ≡ e - a = length-take-le (e - a) (drop a o) (simp length-drop (omega arith)) in
    rw (q, l, length-replicate {A = ℕ} (e - a) 0) (simp drop-drop)
