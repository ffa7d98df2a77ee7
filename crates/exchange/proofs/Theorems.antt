-- Demand 3 and its kin, over the keeper's public contracts: an event leaves a well-formed table well-formed, every other call's record as it
-- was and where it was, and the header; two neighbours that do not name the same Call-ID may change places. For every ceiling c of
-- JSON values, the same for every event of a run (02 §9). By `lifting`. Assumes nothing.
use Rattle.std.specs.Prelude.{Some}
use Rattle.octets.proofs.TestLaws.{and_both, and_parts, clash}
use Prim.Native.Nat.{ℕ, ◌+◌, ◌-◌, ◌*◌, ◌≤◌, ◌<◌}
use Rattle.answers.specs.Answer.{is_quiet}
use Rattle.exchange.proofs.Agreement.{agrees, look_is}
use Rattle.exchange.proofs.Parts.{ours}
use Rattle.exchange.proofs.Quiet.{Quiet, message-quiet, tick-quiet}
use Rattle.exchange.proofs.Rules.{laws}
use Rattle.exchange.specs.Paper.{refused, paper_of}
use Rattle.exchange.specs.Sequence.{Event, message, tick, event_step, event_answer, event_table, after_all, answers, name_of, Apart, is_no_room, Roomy, Exchanged, AllBytes}
use Rattle.keeper.specs.inner.Known.{Fitting}
use Rattle.keeper.specs.Keeping.{on_message, on_tick}
use Rattle.lifting.proofs.Exchange as exchanges
use Rattle.lifting.proofs.Steps as steps
use Rattle.lifting.specs.inner.Keeper as lifted
use Rattle.octets.proofs.NumberLaws.{Octets, capacity, number-below}
use Rattle.octets.proofs.TextLaws.{same-eq, same_self}
use Rattle.octets.specs.Class.{among}
use Rattle.octets.specs.Number.{big_endian}
use Rattle.octets.specs.Text.{same}
use Rattle.table.proofs.ImageLaws.{length_record, byte_at}
use Rattle.table.proofs.KeepLaws.{frame_of, distinct_of, record_of, one_record}
use Rattle.table.proofs.SearchLaws.{all-every}
use Rattle.table.specs.Image.{record_count, record_at, record_size, header_size, header_of}
use Rattle.table.specs.Record.{record_call_id, record_fields, is_free, is_named}
use Rattle.table.specs.WellFormed.{apart, apart_before, distinct, frame_sound, records_sound, record_sound, well_formed}
use borrow.Author.Tests.{eqb-true}
use lib.Dec.{eqb}
use lib.ListN.{length, take, drop, length-drop}
use lib.Seq.{length-take-le, get_or-take, get_or-drop}
use mathlib.Core.Bool.{Bool, true, false, not, ◌&&◌, ◌||◌}
use mathlib.Core.List.{List, [], ◌∷◌, ◌++◌}
use mathlib.Core.Path.{◌≡◌, refl, sym, ap, ◌∙◌}
use native.Mathlib.Omega.{arith}

-- Well-formed, in the words of `lifting` and of the table.

module _ (t : List ℕ) (bytes : AllBytes t) (k : ℕ) (h : k < record_count t) where
  -- n bytes of record k are bytes
  octets : (off n : ℕ) → off + n ≤ 160 → Octets (take n (drop off (record_at t k)))
  octets off n g =
      let l : length (record_at t k) ≡ 160 = length_record t k h in
      let e : length (drop off (record_at t k)) ≡ length (record_at t k) - off = length-drop off (record_at t k) in
      record {
        each = λ j i.
            let f : length (take n (drop off (record_at t k))) ≡ n = length-take-le n (drop off (record_at t k)) (omega arith) in
            rw (get_or-take n (drop off (record_at t k)) j 0 (omega arith), get_or-drop off (record_at t k) j 0, byte_at t k (off + j) (omega arith))
            (bytes.each (16 + 160 * k + (off + j)) (omega arith));
      }

  below : (off n : ℕ) → off + n ≤ 160 → big_endian (take n (drop off (record_at t k))) < capacity n
  below off n g =
      let l : length (record_at t k) ≡ 160 = length_record t k h in
      let e : length (drop off (record_at t k)) ≡ length (record_at t k) - off = length-drop off (record_at t k) in
      number-below n (take n (drop off (record_at t k))) (length-take-le n (drop off (record_at t k)) (omega arith)) (octets off n g)

  fitting : Fitting (record_fields (record_at t k))
  unfolding record_fields capacity
  fitting = record { caller = below 120 4 (omega arith); callee = below 124 4 (omega arith); last = below 128 8 (omega arith) }

well-good : (c : ℕ) (t : List ℕ) → AllBytes t → well_formed t ≡ true → lifted.Good (ours c) t
well-good c t b w =
    record {
      frame = frame_of t w;
      fit = λ k h. record { long = length_record t k h; sound = record_of t w k h; fitting = fitting t b k h };
      one = λ i k l h g p q. sym (one_record t (distinct_of t w) i k l h g p q);
    }

-- records that are nobody's twice are apart
apart_of : (r s : List ℕ) → ((i : List ℕ) → is_named i r ≡ true → is_named i s ≡ true → ⊥) → apart r s ≡ true
unfolding apart is_named
apart_of r s f = go (is_free r) (is_free s) (same (record_call_id r) (record_call_id s)) refl refl refl
  where
    go : (a b c : Bool) → is_free r ≡ a → is_free s ≡ b → same (record_call_id r) (record_call_id s) ≡ c
        → (is_free r || (is_free s || not (same (record_call_id r) (record_call_id s)))) ≡ true
    go true b c p q e = rw p
    go false true c p q e = rw (p, q)
    go false false false p q e = rw (p, q, e)
    go false false true p q e =
        absurd (f (record_call_id s) (rw (p, e)) (rw q (same_self (record_call_id s))))

good-well : (c : ℕ) (t : List ℕ) → lifted.Good (ours c) t → well_formed t ≡ true
unfolding well_formed records_sound distinct apart_before
good-well c t g =
    and_both g.frame
    (and_both (all-every (λ k. record_sound (record_at t k)) (record_count t) (λ k h. (g.fit k h).sound))
    (all-every (apart_before t) (record_count t) (λ k h. all-every (λ l. apart (record_at t k) (record_at t l)) k
    (λ l i. apart_of (record_at t k) (record_at t l) (λ id p q. let e = g.one id k l h (omega arith) p q in omega arith)))))

-- One event.

step-good : (c : ℕ) (t : List ℕ) (e : Event) → lifted.Good (ours c) t → lifted.Good (ours c) (event_table c t e)
step-good c t e g = rw (sym (agrees c t e (good-well c t g)).tables) (steps.step (ours c) (laws c) t e g).good

-- an event leaves a well-formed table well-formed
pub stays-well_formed : (c : ℕ) (t : List ℕ) (e : Event) → AllBytes t → well_formed t ≡ true → well_formed (event_table c t e) ≡ true
stays-well_formed c t e b w = good-well c (event_table c t e) (step-good c t e (well-good c t b w))

ill_message : (c : ℕ) (t : List ℕ) (now : ℕ) (s : List ℕ) → well_formed t ≡ false → (paper_of (on_message c t now s).answer ≡ refused 1 0 0) × ((on_message c t now s).table ≡ t)
unfolding on_message
ill_message c t now s w = rw w (refl, refl)

ill_tick : (t : List ℕ) (now : ℕ) (id : List ℕ) → well_formed t ≡ false → (paper_of (on_tick t now id).answer ≡ refused 1 0 0) × ((on_tick t now id).table ≡ t)
unfolding on_tick
ill_tick t now id w = rw w (refl, refl)

-- an image that is not well-formed is answered 1, and is left as it was
pub ill_formed : (c : ℕ) (t : List ℕ) (e : Event) → well_formed t ≡ false → (paper_of (event_answer c t e) ≡ refused 1 0 0) × (event_table c t e ≡ t)
ill_formed c t (message now s) w = ill_message c t now.milliseconds s w
ill_formed c t (tick now id) w = ill_tick t now.milliseconds id w

-- a refusal, a repeat and a none leave the table byte for byte as it was, whatever it was
well-quiet : (c : ℕ) (t : List ℕ) (e : Event) → lifted.Good (ours c) t → Quiet t (event_step c t e)
well-quiet c t (message now s) g = message-quiet c t g now s
well-quiet c t (tick now id) g = tick-quiet c t g now id

pub changes_nothing : (c : ℕ) (t : List ℕ) (e : Event) → AllBytes t → is_quiet (event_answer c t e) ≡ true → event_table c t e ≡ t
changes_nothing c t e b q = go (well_formed t) refl
  where
    go : (v : Bool) → well_formed t ≡ v → event_table c t e ≡ t
    go true w = (well-quiet c t e (well-good c t b w)).stays q
    go false w = (ill_formed c t e w).1

-- Sequences.

runs : (c : ℕ) (t : List ℕ) (es : List Event) → lifted.Good (ours c) t → lifted.after_all (ours c) t es ≡ after_all c t es
unfolding lifted.after_all after_all
runs c t [] g = refl
runs c t (e ∷ es) g = ap (λ (u : List ℕ). lifted.after_all (ours c) u es) (agrees c t e (good-well c t g)).tables ∙ runs c (event_table c t e) es (step-good c t e g)

answered : (c : ℕ) (t : List ℕ) (es : List Event) → lifted.Good (ours c) t → lifted.answers (ours c) t es ≡ answers c t es
unfolding lifted.answers answers
answered c t [] g = refl
answered c t (e ∷ es) g =
    let a = agrees c t e (good-well c t g) in
    rw (a.answers, a.tables, answered c (event_table c t e) es (step-good c t e g))

run-good : (c : ℕ) (t : List ℕ) (es : List Event) → lifted.Good (ours c) t → lifted.Good (ours c) (after_all c t es)
unfolding after_all
run-good c t [] g = g
run-good c t (e ∷ es) g = run-good c (event_table c t e) es (step-good c t e g)

-- any sequence leaves a well-formed table well-formed
pub run-well_formed : (c : ℕ) (t : List ℕ) (es : List Event) → AllBytes t → well_formed t ≡ true → well_formed (after_all c t es) ≡ true
run-well_formed c t es b w = good-well c (after_all c t es) (run-good c t es (well-good c t b w))

-- In a sequence no event alters a byte of another call's record, which stays in its place.
untouched-by : (c : ℕ) (t : List ℕ) (e : Event) → lifted.Good (ours c) t → (k : ℕ) → k < record_count t → (id : List ℕ) → is_named id (record_at t k) ≡ true
    → (name_of c e ≡ Some id → ⊥) → record_at (event_table c t e) k ≡ record_at t k
untouched-by c t e g k h id n ne = rw (sym (agrees c t e (good-well c t g)).tables) ((steps.step (ours c) (laws c) t e g).bytes k h id ne n)

pub untouched : (c : ℕ) (t : List ℕ) (xs : List Event) (e : Event) → AllBytes t → well_formed t ≡ true → (k : ℕ) → k < record_count (after_all c t xs) → (id : List ℕ)
    → is_named id (record_at (after_all c t xs) k) ≡ true → (name_of c e ≡ Some id → ⊥) → record_at (event_table c (after_all c t xs) e) k ≡ record_at (after_all c t xs) k
untouched c t xs e b w k h id n ne = untouched-by c (after_all c t xs) e (run-good c t xs (well-good c t b w)) k h id n ne

header_of_lem : (t : List ℕ) → frame_sound t ≡ true → (take header_size t ≡ header_of (record_count t)) × (length t ≡ header_size + record_size * record_count t)
unfolding frame_sound
header_of_lem t f =
    let a = and_parts (eqb (length t) (header_size + record_size * record_count t)) (among 1 255 (record_count t) && same (take header_size t) (header_of (record_count t))) f in
    let b = and_parts (among 1 255 (record_count t)) (same (take header_size t) (header_of (record_count t))) a.1 in
    (same-eq (take header_size t) (header_of (record_count t)) b.1, eqb-true (length t) (header_size + record_size * record_count t) a.0)

size-run : (c : ℕ) (t : List ℕ) (es : List Event) → lifted.Good (ours c) t → record_count (after_all c t es) ≡ record_count t
unfolding after_all
size-run c t [] g = refl
size-run c t (e ∷ es) g =
    let s : record_count (event_table c t e) ≡ record_count t = rw (sym (agrees c t e (good-well c t g)).tables) (steps.step (ours c) (laws c) t e g).size-kept in
    size-run c (event_table c t e) es (step-good c t e g) ∙ s

-- nor does a sequence alter the header, or the table's length
pub header_kept : (c : ℕ) (t : List ℕ) (es : List Event) → AllBytes t → well_formed t ≡ true
    → (take header_size (after_all c t es) ≡ take header_size t) × (length (after_all c t es) ≡ length t)
header_kept c t es b w =
    let g = well-good c t b w in
    let s = size-run c t es g in
    let p = header_of_lem t g.frame in
    let q = header_of_lem (after_all c t es) (run-good c t es g).frame in
    (q.0 ∙ ap header_of s ∙ sym p.0, q.1 ∙ ap (λ n. header_size + record_size * n) s ∙ sym p.1)

-- an event that is turned away is answered 'no room'
away-no-room : (c : ℕ) (t : List ℕ) (e : Event) → lifted.Good (ours c) t → lifted.Away (ours c) t e → is_no_room (event_answer c t e) ≡ true
unfolding lifted.answer lifted.answer_to
away-no-room c t e g a =
    let r : lifted.answer (ours c) t e ≡ (ours c).turned e = rw (a.by_name, a.unheld, a.opens, a.full) in
    ap is_no_room (sym (agrees c t e (good-well c t g)).answers ∙ r)

module _ (c : ℕ) (t : List ℕ) (a b : Event) (g : lifted.Good (ours c) t) (r : Roomy c t a b) where
  roomy : lifted.Roomy (ours c) t a b
  roomy =
      record {
        first-a = λ w. clash (away-no-room c t a g w) r.first-a;
        then-b = λ w. clash (away-no-room c (event_table c t a) b (step-good c t a g) (rw (agrees c t a (good-well c t g)).tables at w)) r.then-b;
        first-b = λ w. clash (away-no-room c t b g w) r.first-b;
        then-a = λ w. clash (away-no-room c (event_table c t b) a (step-good c t b g) (rw (agrees c t b (good-well c t g)).tables at w)) r.then-a;
      }

-- DEMAND 3: on a well-formed table, two neighbours that do not name the same Call-ID, neither of which is answered 'no room' in either
-- order, may change places: every answer of the whole sequence and each call's final record stay
pub exchange : (c : ℕ) (t : List ℕ) (xs : List Event) (a b : Event) (ys : List Event) → AllBytes t → well_formed t ≡ true → Apart c a b
    → Roomy c (after_all c t xs) a b → Exchanged c t xs a b ys
exchange c t xs a b ys bytes w apart r =
    let g = well-good c t bytes w in
    let h : lifted.Roomy (ours c) (lifted.after_all (ours c) t xs) a b = rw (runs c t xs g) (roomy c (after_all c t xs) a b (run-good c t xs g) r) in
    let x = exchanges.exchange (ours c) (laws c) t xs a b ys g apart h in
    record {
      before = x.before;
      to-a = x.to-a;
      to-b = x.to-b;
      behind = x.behind;
      answers_ab = sym (answered c t (xs ++ a ∷ b ∷ ys) g) ∙ x.answers_ab;
      answers_ba = sym (answered c t (xs ++ b ∷ a ∷ ys) g) ∙ x.answers_ba;
      as_many = x.as_many;
      records = λ id.
          sym (look_is c id (after_all c t (xs ++ a ∷ b ∷ ys))) ∙ ap (lifted.look (ours c) id) (sym (runs c t (xs ++ a ∷ b ∷ ys) g)) ∙ x.records id
          ∙ ap (lifted.look (ours c) id) (runs c t (xs ++ b ∷ a ∷ ys) g) ∙ look_is c id (after_all c t (xs ++ b ∷ a ∷ ys));
    }
