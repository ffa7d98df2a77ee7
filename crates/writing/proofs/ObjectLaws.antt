-- Objects of Via by their own bytes: an object of Via in any text is one by itself, and back (`hop-own`, `own-hop`), so Via's rule is one on the bytes of
-- its objects (`via-solid`, `solid-via`). Assumes nothing.
use Prim.Native.Nat.{ℕ, zero, suc, ◌+◌, ◌-◌, ◌≤◌, ◌<◌}
use Rattle.frame.proofs.ArrayEdits.{Solids, solid-goods, array-elements}
use Rattle.frame.proofs.Forwarding.{AllOpen, Solidly, solidly_as, not_none}
use Rattle.frame.proofs.MessageShape.{full}
use Rattle.frame.proofs.Parsed.{spaced, ObjectText, piece-object}
use Rattle.frame.proofs.Standing.{Val, Piece, piece_bytes}
use Rattle.frame.proofs.Written.{Named, body-append}
use Rattle.json_text.proofs.Listing.{Item, items, values, read_all, at_byte, at_next, ws_44, ws_93, more-on, more_off, item-read, elements-at, array_long, object-read}
use Rattle.json_text.proofs.ScanLaws.{Opener, Opened}
use Rattle.json_text.specs.Places.{bytes, past, follows, members, elements_from, elements, spell}
use Rattle.fields.specs.Hop.{hop_of, host_of}
use Rattle.values.specs.Spans.{spelling_at}
use Rattle.values.specs.Value.{is_array, spelling_of}
use Rattle.fields.specs.Via.{hop_places, is_hop, via_rule}
use Rattle.octets.proofs.ClassLaws.{among_in, in_among}
use Rattle.octets.proofs.TestLaws.{and_parts}
use Rattle.octets.specs.Class.{among, all}
use Rattle.rules.specs.Names.{hop_members}
use Rattle.message.proofs.HopPairs.{HopBy, hop-few, hop_pairs, pairs_hop}
use Rattle.message.proofs.PairLaws.{found, value_in, late-members, by-once, noted-by}
use borrow.Author.Tests.{eq-eqb, eqb-true}
use lib.Dec.{eqb}
use lib.ListN.{length, get_or, drop, length-map}
use mathlib.Core.Bool.{true}
use mathlib.Core.List.{List, [], ◌∷◌, ◌++◌, append-nil, map}
use mathlib.Core.Logic.{inr}
use mathlib.Core.Path.{◌≡◌, refl, sym, ap, subst, ◌∙◌}
use native.Mathlib.Omega.{arith}

-- a value that stands by itself stands at q
pub record Stands (d : ℕ) (s : List ℕ) (q : ℕ) : Type 0 where
  pub v : List ℕ
  pub t : List ℕ
  pub is : drop q s ≡ v ++ t
  pub piece : Piece d v

abbrev pub AllStand : ℕ → List ℕ → List ℕ → Type 0
AllStand d s [] = Unit
AllStand d s (q ∷ qs) = Stands d s q × AllStand d s qs

all-stand : (N d : ℕ) (s : List ℕ) (a : ℕ) (i : Item) (is : List Item) (t : List ℕ) → Solids d i is → length is < N → drop a s ≡ items i is t → AllStand d s (elements_from N s a)
unfolding elements_from items
all-stand zero d s a i is t h c e = absurd (omega arith)
all-stand (suc N) d s a i [] t h c e =
    let r = item-read (Val d) (λ v q x. x.sized) 93 s a i t (solid-goods d i [] h) ws_93 e in
    (record { v = i.v; t = i.u ++ (93 ∷ t); is = r.start; piece = h.piece }, subst (AllStand d s) (sym (more_off 93 s t (elements_from N s) (past s a) refl r.rest)) tt)
all-stand (suc N) d s a i (j ∷ js) t h c e =
    let r = item-read (Val d) (λ v q x. x.sized) 44 s a i (items j js t) (solid-goods d i (j ∷ js) h).0 ws_44 e in
    let y = follows s (past s a) in (
      record { v = i.v; t = i.u ++ (44 ∷ items j js t); is = r.start; piece = h.0.piece },
      subst (AllStand d s) (sym (more-on s (items j js t) (elements_from N s) (past s a) r.rest))
          (all-stand N d s (y + 1) j js t h.1 (omega arith) (at_next 44 _ s y r.rest)),
    )

-- the elements of an array of such values
pub array-stand : (d : ℕ) (s : List ℕ) (o : ℕ) (i : Item) (is : List Item) (t : List ℕ) → Solids d i is → drop o s ≡ 91 ∷ items i is t → AllStand d s (elements s o)
array-stand d s o i is t h e =
    let g = solid-goods d i is h in
    subst (AllStand d s) (sym (elements-at (Val d) (λ v q x. x.sized) s o i is t g e))
    (all-stand (length s) d s (o + 1) i is t h (array_long (Val d) (λ v q x. x.sized) s o i is t g e) (at_next 91 _ s o e))

opened-byte : (v t s : List ℕ) (q : ℕ) → Opened v → drop q s ≡ v ++ t → Opener (get_or s q 0)
opened-byte [] t s q o e = absurd o
opened-byte (b ∷ v) t s q o e = subst Opener (sym (at_byte b (v ++ t) s q e)) o

pub all_open : (d : ℕ) (s es : List ℕ) → AllStand d s es → AllOpen s es
all_open d s [] h = tt
all_open d s (q ∷ qs) h = (opened-byte h.0.v h.0.t s q h.0.piece.opened h.0.is, all_open d s qs h.1)

-- An object, read in a text and by itself.
module _ (d : ℕ) (r : List ℕ) (p : Piece d (123 ∷ r)) (n : (t : List ℕ) → (spaced r).t ≡ 125 ∷ t → ⊥) where
  parsed : ObjectText (d - 1) r
  parsed = piece-object d r p n

  read_in : (s t : List ℕ) (q : ℕ) → drop q s ≡ (123 ∷ r) ++ t → map (spell s) (members s q) ≡ read_all (parsed.f ∷ parsed.fs)
  read_in s t q e = object-read (Val (d - 1)) Named (λ v q x. x.sized) (λ n x. x.listed) s q parsed.f parsed.fs t parsed.good
      (e ∙ ap (λ (z : List ℕ). 123 ∷ (z ++ t)) parsed.eq ∙ ap (λ (z : List ℕ). 123 ∷ z) (body-append parsed.f parsed.fs t))

  own_read : (s t : List ℕ) (q : ℕ) → drop q s ≡ (123 ∷ r) ++ t → map (spell s) (members s q) ≡ map (spell (123 ∷ r)) (members (123 ∷ r) 0)
  own_read s t q e = read_in s t q e ∙ sym (read_in (123 ∷ r) [] 0 (sym (append-nil (123 ∷ r))))

some-there : (s qs : List ℕ) → found hop_members 1 (map (spell s) qs) ≡ true → 0 < length qs
unfolding found
some-there s [] e = absurd (let z : ◌≡◌ {A = ℕ} 0 1 = cc in omega arith)
some-there s (q ∷ qs) e = omega arith

braced : (v : List ℕ) → get_or v 0 0 ≡ 123 → (r : List ℕ) × (v ≡ 123 ∷ r)
braced [] e = absurd (omega arith)
braced (b ∷ r) e = (r, ap (λ (c : ℕ). c ∷ r) e)

front-byte : (v t s : List ℕ) (q : ℕ) → Opened v → drop q s ≡ v ++ t → get_or v 0 0 ≡ get_or s q 0
front-byte [] t s q o e = absurd o
front-byte (b ∷ v) t s q o e = sym (at_byte b (v ++ t) s q e)

hop_as : (d : ℕ) (r t s : List ℕ) (q : ℕ) → Piece d (123 ∷ r) → drop q s ≡ (123 ∷ r) ++ t → is_hop s q ≡ true → is_hop (123 ∷ r) 0 ≡ true
hop_as d r t s q p e h =
    let b = (hop_pairs s q h).1 in
    let n = full s r t q e (not_none s q 0 (some-there s (members s q) (b.there 1 (omega arith) (omega arith)))) in
    pairs_hop (123 ∷ r) 0 refl (subst HopBy (own_read d r p n s t q e) b)

as_hop : (d : ℕ) (r t s : List ℕ) (q : ℕ) → Piece d (123 ∷ r) → drop q s ≡ (123 ∷ r) ++ t → is_hop (123 ∷ r) 0 ≡ true → is_hop s q ≡ true
as_hop d r t s q p e h =
    let b = (hop_pairs (123 ∷ r) 0 h).1 in
    let n = full (123 ∷ r) r [] 0 (sym (append-nil (123 ∷ r))) (not_none (123 ∷ r) 0 0 (some-there (123 ∷ r) (members (123 ∷ r) 0) (b.there 1 (omega arith) (omega arith)))) in
    pairs_hop s q (at_byte 123 (r ++ t) s q e) (subst HopBy (sym (own_read d r p n s t q e)) b)

module _ (d : ℕ) (s : List ℕ) (q : ℕ) (w : Stands d s q) where
  own-bytes : bytes s q ≡ w.v
  own-bytes = piece_bytes d w.v w.t s q w.piece w.is

  pub hop-own : is_hop s q ≡ true → is_hop (bytes s q) 0 ≡ true
  hop-own h =
      let b = braced w.v (front-byte w.v w.t s q w.piece.opened w.is ∙ (hop_pairs s q h).0) in
      rw own-bytes (rw b.1 (hop_as d b.0 w.t s q (subst (Piece d) b.1 w.piece) (w.is ∙ ap (λ (v : List ℕ). v ++ w.t) b.1) h))

  pub own-hop : is_hop (bytes s q) 0 ≡ true → is_hop s q ≡ true
  own-hop h =
      let g : is_hop w.v 0 ≡ true = rw own-bytes at h in
      let b = braced w.v (hop_pairs w.v 0 g).0 in
      as_hop d b.0 w.t s q (subst (Piece d) b.1 w.piece) (w.is ∙ ap (λ (v : List ℕ). v ++ w.t) b.1) (subst (λ (v : List ℕ). is_hop v 0 ≡ true) b.1 g)

-- The host's value, found in a text and in the object by itself.
host-value : (s : List ℕ) (q : ℕ) → HopBy (map (spell s) (members s q)) → bytes s (get_or (hop_places s q) 1 0) ≡ value_in hop_members 1 (map (spell s) (members s q))
unfolding hop_places
host-value s q b = (noted-by hop_members hop-few s (members s q) 1 (late-members s q) (omega arith) b.once (b.there 1 (omega arith) (omega arith))).1

host_as : (v : List ℕ) → HopBy (map (spell v) (members v 0)) → host_of v ≡ spelling_of (value_in hop_members 1 (map (spell v) (members v 0)))
unfolding host_of hop_of spelling_at
host_as v b = rw (by-once hop_members hop-few v (members v 0) b.once) (ap spelling_of (host-value v 0 b))

module _ (d : ℕ) (s : List ℕ) (q : ℕ) (w : Stands d s q) (h : is_hop s q ≡ true) where
  host-by : (r : List ℕ) → w.v ≡ 123 ∷ r → spelling_at s (get_or (hop_places s q) 1 0) ≡ host_of w.v
  unfolding spelling_at
  host-by r e =
      let b = (hop_pairs s q h).1 in
      let i : drop q s ≡ (123 ∷ r) ++ w.t = w.is ∙ ap (λ (v : List ℕ). v ++ w.t) e in
      let n = full s r w.t q i (not_none s q 0 (some-there s (members s q) (b.there 1 (omega arith) (omega arith)))) in
      let o = own_read d r (subst (Piece d) e w.piece) n s w.t q i in
      ap spelling_of (host-value s q b ∙ ap (value_in hop_members 1) o) ∙ sym (ap host_of e ∙ host_as (123 ∷ r) (subst HopBy o b))

  -- the host, wherever the object stands
  pub host-own : spelling_at s (get_or (hop_places s q) 1 0) ≡ host_of (bytes s q)
  host-own =
      let b = braced w.v (front-byte w.v w.t s q w.piece.opened w.is ∙ (hop_pairs s q h).0) in
      rw (own-bytes d s q w) (host-by b.0 b.1)

-- Objects of Via, each by its own bytes.
abbrev pub AllHops : List (List ℕ) → Type 0
AllHops [] = Unit
AllHops (x ∷ xs) = (is_hop x 0 ≡ true) × AllHops xs

hops-own : (d : ℕ) (s es : List ℕ) → AllStand d s es → all (is_hop s) es ≡ true → AllHops (map (bytes s) es)
unfolding all
hops-own d s [] h e = tt
hops-own d s (q ∷ qs) h e = let p = and_parts (is_hop s q) (all (is_hop s) qs) e in (hop-own d s q h.0 p.0, hops-own d s qs h.1 p.1)

own-hops : (d : ℕ) (s es : List ℕ) → AllStand d s es → AllHops (map (bytes s) es) → all (is_hop s) es ≡ true
unfolding all
own-hops d s [] h e = refl
own-hops d s (q ∷ qs) h e = rw (own-hop d s q h.0 e.0) (own-hops d s qs h.1 e.1)

pub hops-append : (xs : List (List ℕ)) (z : List ℕ) → AllHops xs → is_hop z 0 ≡ true → AllHops (xs ++ (z ∷ []))
hops-append [] z h e = (e, tt)
hops-append (x ∷ xs) z h e = (h.0, hops-append xs z h.1 e)

-- The rule of Via, opened.
pub record ViaIs (v : List ℕ) : Type 0 where
  pub array : get_or v 0 0 ≡ 91
  pub many : (1 ≤ length (elements v 0)) × (length (elements v 0) ≤ 16)
  pub hops : all (is_hop v) (elements v 0) ≡ true

pub via-is : (v : List ℕ) → via_rule v ≡ true → ViaIs v
unfolding via_rule is_array
via-is v e =
    let p = and_parts (eqb (get_or v 0 0) 91) _ e in
    let q = and_parts (among 1 16 (length (elements v 0))) (all (is_hop v) (elements v 0)) p.1 in
    record { array = eqb-true _ 91 p.0; many = among_in 1 16 (length (elements v 0)) q.0; hops = q.1 }

is-via : (v : List ℕ) → ViaIs v → via_rule v ≡ true
unfolding via_rule is_array
is-via v h = rw (eq-eqb _ 91 h.array, in_among 1 16 (length (elements v 0)) h.many.0 h.many.1, h.hops)

hops_open : (v es : List ℕ) → all (is_hop v) es ≡ true → AllOpen v es
unfolding all
hops_open v [] e = tt
hops_open v (q ∷ qs) e = let p = and_parts (is_hop v q) (all (is_hop v) qs) e in (inr (inr (hop_pairs v q p.0).0), hops_open v qs p.1)

-- an array of objects of Via, by its items
pub record ViaItems (v : List ℕ) : Type 0 where
  pub i : Item
  pub is : List Item
  pub eq : v ≡ 91 ∷ items i is []
  pub solid : Solids 5 i is
  pub hops : AllHops (values (i ∷ is))
  pub many : length (values (i ∷ is)) ≤ 16

solid-by : (v : List ℕ) (x : ℕ) (xs : List ℕ) → Piece 6 v → ViaIs v → elements v 0 ≡ x ∷ xs → Solidly 5 v
solid-by v x xs p h e = by v h.array p (hops_open v (elements v 0) h.hops) e
  where
    by : (v : List ℕ) → get_or v 0 0 ≡ 91 → Piece 6 v → AllOpen v (elements v 0) → elements v 0 ≡ x ∷ xs → Solidly 5 v
    by [] g p o e = absurd (omega arith)
    by (b ∷ r) g p o e = by' b g p o e
      where
        by' : (b : ℕ) → b ≡ 91 → Piece 6 (b ∷ r) → AllOpen (b ∷ r) (elements (b ∷ r) 0) → elements (b ∷ r) 0 ≡ x ∷ xs → Solidly 5 (b ∷ r)
        by' b g p o e = subst (λ (c : ℕ). Piece 6 (c ∷ r) → AllOpen (c ∷ r) (elements (c ∷ r) 0) → elements (c ∷ r) 0 ≡ x ∷ xs → Solidly 5 (c ∷ r)) (sym g)
            (λ p' o' e'. solidly_as (91 ∷ r) r [] 0 x xs p' (sym (append-nil (91 ∷ r))) e' o') p o e

items-objects : (v : List ℕ) (i : Item) (is : List Item) → Solids 5 i is → v ≡ 91 ∷ items i is [] → map (bytes v) (elements v 0) ≡ values (i ∷ is)
items-objects v i is h e = ap (λ (z : List ℕ). map (bytes z) (elements z 0)) e ∙ array-elements 5 [] i is [] h

via-items : (v : List ℕ) → ViaIs v → Solidly 5 v → ViaItems v
via-items v h w =
    let e = items-objects v w.i w.is w.solid w.eq in
    record {
      i = w.i;
      is = w.is;
      eq = w.eq;
      solid = w.solid;
      hops = subst AllHops e (hops-own 5 v (elements v 0) (array-stand 5 v 0 w.i w.is [] w.solid w.eq) h.hops);
      many = omega (arith, ap length e, length-map (elements v 0) (bytes v), h.many.1);
    }

pub via-solid : (v : List ℕ) → Piece 6 v → via_rule v ≡ true → ViaItems v
via-solid v p e = by (elements v 0) refl
  where
    by : (es : List ℕ) → elements v 0 ≡ es → ViaItems v
    by [] f = absurd (omega (arith, (via-is v e).many.0, ap length f))
    by (x ∷ xs) f = via-items v (via-is v e) (solid-by v x xs p (via-is v e) f)

-- and back
pub solid-via : (i : Item) (is : List Item) → Solids 5 i is → AllHops (values (i ∷ is)) → length (values (i ∷ is)) ≤ 16 → via_rule (91 ∷ items i is []) ≡ true
solid-via i is h a m =
    let v : List ℕ = 91 ∷ items i is [] in
    let e : map (bytes v) (elements v 0) ≡ values (i ∷ is) = items-objects v i is h refl in
    is-via v (record {
      array = refl;
      many = (omega (arith, ap length e, length-map (elements v 0) (bytes v)), omega (arith, ap length e, length-map (elements v 0) (bytes v)));
      hops = own-hops 5 v (elements v 0) (array-stand 5 v 0 i is [] h refl) (subst AllHops (sym e) a);
    })
