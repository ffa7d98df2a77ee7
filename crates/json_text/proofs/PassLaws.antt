-- For readers that go from place to place: what a byte behind a value says of its end; and what a string or a member that passes, or does not, says of
-- the machine's answer, whatever stands around. Assumes nothing.
use Rattle.octets.proofs.TextLaws.{there}
use Prim.Native.Nat.{ℕ, suc, ◌+◌, ◌≤◌, ◌<◌}
use Rattle.json_text.proofs.AroundLaws.{tour-around, one-ends, lone-ends}
use Rattle.json_text.proofs.EndLaws.{ws_mark, ends_at, ends_open}
use Rattle.json_text.proofs.MoveLaws.{moves, short-arr, short-obj, onward-alone}
use Rattle.json_text.proofs.PlaceLaws.{past-low, past-inner, past_stop, next-is}
use Rattle.json_text.proofs.SpaceLaws.{past-tour, past-ink}
use Rattle.json_text.proofs.StepLaws.{not-ws, ws-value, ws-colon, ws-obj, name-quote, colon-hit, colon-miss, value-quote, obj-miss}
use Rattle.json_text.proofs.TourLaws.{tour-moves, tour-short, string-around, alone-stops, opens-some}
use Rattle.json_text.specs.inner.Machine.{Stack, alone, arr, obj, Role, label, plain, Mode, value, name, colon, after, str, live, dead, closed, levels}
use Rattle.json_text.specs.inner.Machine.{step, from, one, Leaf}
use Rattle.json_text.specs.inner.Passing.{is_end, passed, is_next, followed, passed_member}
use Rattle.json_text.specs.inner.Tour.{lift, tour, resume, lone, Tally}
use Rattle.json_text.specs.Places.{past, is_mark, is_shut, next, behind, value_of, follows, is_ws}
use Rattle.json_text.specs.inner.Landing.{Lands, Row}
use Rattle.json_text.specs.inner.Tour.{Toured}
use Rattle.json_text.specs.inner.Machine.{Walked}
use Rattle.json_text.specs.declared.passing.Visit.{Visit}
use borrow.Author.Tests.{eqb-true, eqb-false, eq-eqb, ne_eqb}
use lib.Dec.{eqb}
use lib.ListN.{length, get_or}
use mathlib.Core.Bool.{Bool, true, false, ◌||◌, not}
use mathlib.Core.List.{List}
use mathlib.Core.Logic.{◌⊎◌, inl, inr}
use mathlib.Core.Path.{◌≡◌, refl, sym, ap, subst, ◌∙◌}
use native.Mathlib.Decide.{dec_lt, ℕ_discrete}
use native.Mathlib.Omega.{arith}
use Rattle.json_text.specs.declared.Fault.TheVariants.{Bad}
use Rattle.std.specs.Prelude.{Result, Ok, Err, Option, Some, None}
use Rattle.std.specs.Result.{result_ok}

-- a byte that ends a member, and white space, are marks
marks : (b : ℕ) → (b ≡ 44) ⊎ (b ≡ 125) → is_mark b ≡ true
unfolding is_mark is_shut is_ws
marks b (inl e) = rw e
marks b (inr e) = rw e

pub mark_at : (s : List ℕ) (w t : ℕ) → t ≡ past s w → w < length s → (get_or s t 0 ≡ 44) ⊎ (get_or s t 0 ≡ 125) → is_mark (get_or s w 0) ≡ true
mark_at s w t e h f = by (is_ws (get_or s w 0)) refl
  where
    by : (x : Bool) → is_ws (get_or s w 0) ≡ x → is_mark (get_or s w 0) ≡ true
    by true q = ws_mark (get_or s w 0) q
    by false q =
        let z : t ≡ w = e ∙ past_stop s w h q in
        rw (← z) (marks (get_or s t 0) f)

-- What the readers of strings and of values answer, as `passed` and `lone` have it.
pub value-lone : {s : List ℕ} {v left room : ℕ} {r : Toured} → Tally s v left room value (λ k. k) r → r ≡ lone left room s v
value-lone {s} {v} {left} {room} {r} l = sym (l.same (alone left) refl ∙ alone-stops s left r l.high)

module _ {s : List ℕ} {q : ℕ} {r : Walked} (h : q < length s) (quote : get_or s q 0 ≡ 34) (l : Leaf s (q + 1) str closed r) where
  string-is : r ≡ one 0 s q
  string-is =
      sym (moves s q value (alone 0) (live (str plain) (alone 0)) h (value-quote (alone 0) (get_or s q 0) quote) ∙ l.same plain (alone 0) ∙ onward-alone s 0 r l.high)

  pub string-told : result_ok r ≡ passed s q
  unfolding passed
  string-told = ap result_ok string-is

-- The machine is stuck where a reader is,
pub stuck-on : (s : List ℕ) (m : Mode) (k : Stack) (r : Toured) → is_end r ≡ false → is_end (resume s m k r) ≡ false
stuck-on s m k (Ok (e, n)) h = let z : ◌≡◌ {A = ℕ} 0 1 = cc in absurd (omega arith)
stuck-on s m k (Err f) h = refl

-- and at a byte that does nothing there, and behind the last, where a bracket is open.
module _ (s : List ℕ) (m : Mode) (k : Stack) (n : ℕ) where
  pub dead_end : (i : ℕ) → i < length s → step m k (get_or s i 0) ≡ dead → is_end (tour s i m k n) ≡ false
  dead_end i h e = ap is_end (tour-moves s i m k n _ dead h refl e)

  -- whatever bracket f opens
  open_end : (f : Stack → Stack) → ((i : ℕ) → i ≤ length s → length s ≤ i → from s i m (f k) ≡ Err (Bad i))
      → (i : ℕ) → i ≤ length s → (i < length s → step m (f k) (get_or s i 0) ≡ dead) → is_end (tour s i m (f k) n) ≡ false
  open_end f short i l g = by (dec_lt i (length s))
    where
      by : Dec (i < length s) → is_end (tour s i m (f k) n) ≡ false
      by (yes h) = ap is_end (tour-moves s i m (f k) n _ dead h refl (g h))
      by (no h) = ap is_end (tour-short s i m (f k) n l (omega arith) (short i l (omega arith)))

  pub obj-end : (i : ℕ) → i ≤ length s → (i < length s → step m (obj k) (get_or s i 0) ≡ dead) → is_end (tour s i m (obj k) n) ≡ false
  obj-end = open_end obj (λ i l u. short-obj s i m k l u)

  pub arr-end : (i : ℕ) → i ≤ length s → (i < length s → step m (arr k) (get_or s i 0) ≡ dead) → is_end (tour s i m (arr k) n) ≡ false
  arr-end = open_end arr (λ i l u. short-arr s i m k l u)

-- The string that opens at q passes: the machine says where it ends. It does not pass: the machine finds none.
pub told : {T E : Type 0} (r : Result T E) {x : T} → result_ok r ≡ Some x → r ≡ Ok x
told (Ok y) {x} h = let z : y ≡ x = cc in ap Ok z
told (Err f) h = let z : ◌≡◌ {A = ℕ} 0 1 = cc in absurd (omega arith)

passed-end : (s : List ℕ) (q : ℕ) {e : ℕ} → passed s q ≡ Some e → one 0 s q ≡ Ok e
unfolding passed
passed-end s q h = told (one 0 s q) h

passed_none : (s : List ℕ) (q n : ℕ) → passed s q ≡ None → is_end (lift (one 0 s q) n) ≡ false
unfolding passed
passed_none s q n e = by (one 0 s q) e
  where
    by : (r : Walked) → result_ok r ≡ None → is_end (lift r n) ≡ false
    by (Ok w) g = let z : ◌≡◌ {A = ℕ} 0 1 = cc in absurd (omega arith)
    by (Err f) g = refl

-- it ends at e; as a value it takes room for one
pub record PassedString (s : List ℕ) (q e : ℕ) : Type 0 where
  pub ends : Lands s q (behind s q) e
  pub beyond : q < e
  pub same : (k : Stack) (n : ℕ) → tour s q value k (suc n) ≡ tour s e after k n

module _ (s : List ℕ) (q : ℕ) (h : q < length s) (quote : get_or s q 0 ≡ 34) where
  -- as a value or, with its colon to come, as a name
  role_tour : (w : Role) (k : Stack) (n : ℕ) → tour s (q + 1) (str w) k n ≡ resume s (closed w) k (lift (one 0 s q) n)
  role_tour w k n =
      string-around s (q + 1) (one 0 s q) (omega arith) (sym (moves s q value (alone 0) (live (str plain) (alone 0)) h (value-quote (alone 0) (get_or s q 0) quote))) w k n

  module _ {e : ℕ} (some : passed s q ≡ Some e) where
    string-ends : (q < e) × (e ≤ length s)
    string-ends = one-ends 0 s q e (omega arith) (passed-end s q some)

    string-found : Lands s q (behind s q) e
    string-found = record { is = sym (ends_open 0 s q e h (inl quote) (passed-end s q some)); low = omega (arith, string-ends); inner = λ g. string-ends.1 }

    role_passes : (w : Role) (k : Stack) (n : ℕ) → tour s (q + 1) (str w) k n ≡ tour s e (closed w) k n
    role_passes w k n = role_tour w k n ∙ ap (λ (r : Walked). resume s (closed w) k (lift r n)) (passed-end s q some)

    pub string-passed : PassedString s q e
    string-passed =
        record {
          ends = string-found;
          beyond = string-ends.0;
          same = λ k n.
              opens-some s q k k (str plain) h (not-ws (get_or s q 0) (omega arith)) (value-quote k (get_or s q 0) quote) n ∙ role_passes plain k n;
        }

  module _ (none : passed s q ≡ None) where
    role_stuck : (w : Role) (k : Stack) (n : ℕ) → is_end (tour s (q + 1) (str w) k n) ≡ false
    role_stuck w k n = ap is_end (role_tour w k n) ∙ stuck-on s (closed w) k (lift (one 0 s q) n) (passed_none s q n none)

    pub string-stuck : (k : Stack) (n : ℕ) → is_end (tour s q value k (suc n)) ≡ false
    string-stuck k n =
        ap is_end (opens-some s q k k (str plain) h (not-ws (get_or s q 0) (omega arith)) (value-quote k (get_or s q 0) quote) n) ∙ role_stuck plain k n

-- the member whose name opens at q, with so many levels left in its object and room for so many values: its places, a comma or a closing brace behind it,
-- and the room left
pub record PassedMember (s : List ℕ) (q left room e v w t more : ℕ) : Type 0 where
  pub row : Row s q e v w t
  pub same : (k : Stack) → levels (obj k) ≡ left → tour s q name (obj k) room ≡ tour s t after (obj k) more
  pub inside : t < length s
  pub follow : (get_or s t 0 ≡ 44) ⊎ (get_or s t 0 ≡ 125)

-- A member: its name up to e, its colon at c, its value from v to w, and what follows it at t.
next-by : (x y : Bool) (b : ℕ) → eqb b 44 ≡ x → eqb b 125 ≡ y → (x || y) ≡ true → (b ≡ 44) ⊎ (b ≡ 125)
next-by true y b e f g = inl (eqb-true b 44 e)
next-by false true b e f g = inr (eqb-true b 125 f)
next-by false false b e f g = let z : ◌≡◌ {A = ℕ} 0 1 = cc in absurd (omega arith)

next-not : (x y : Bool) (b : ℕ) → eqb b 44 ≡ x → eqb b 125 ≡ y → (x || y) ≡ false → (b ≡ 44 → ⊥) × (b ≡ 125 → ⊥)
next-not true y b e f g = let z : ◌≡◌ {A = ℕ} 0 1 = cc in absurd (omega arith)
next-not false true b e f g = let z : ◌≡◌ {A = ℕ} 0 1 = cc in absurd (omega arith)
next-not false false b e f g = (eqb-false b 44 e, eqb-false b 125 f)

none-followed : (s : List ℕ) (e v : ℕ) (r : Toured) → is_end r ≡ false → None ≡ followed s e v r
none-followed s e v (Ok (w, n)) h = let z : ◌≡◌ {A = ℕ} 0 1 = cc in absurd (omega arith)
none-followed s e v (Err f) h = refl

pub no_end : (r : Toured) → result_ok r ≡ None → is_end r ≡ false
no_end (Ok x) h = let z : ◌≡◌ {A = ℕ} 0 1 = cc in absurd (omega arith)
no_end (Err f) h = refl

-- One law for each way that the walk over a member ends: what is answered, and of the machine whether it is stuck.
module _ (left room : ℕ) (s : List ℕ) (q : ℕ) where
  pub no_name : passed s q ≡ None → None ≡ passed_member left room s q
  unfolding passed_member
  no_name z = rw z

  module _ {e : ℕ} (named : passed s q ≡ Some e) {c : ℕ} (at_c : c ≡ past s e) where
    pub no-colon : (get_or s c 0 ≡ 58 → ⊥) → None ≡ passed_member left room s q
    unfolding passed_member
    no-colon ne = rw (named, ← at_c, ne_eqb (get_or s c 0) 58 ne)

    module _ {v : ℕ} {r : Toured} (colon-there : get_or s c 0 ≡ 58) (at-v : v ≡ past s (c + 1)) (is-r : r ≡ lone left room s v) where
      to-value : followed s e v r ≡ passed_member left room s q
      unfolding passed_member
      to-value = rw (named, ← at_c, eq-eqb (get_or s c 0) 58 colon-there, ← at-v) (ap (followed s e v) is-r)

      pub no_value : is_end r ≡ false → None ≡ passed_member left room s q
      no_value z = none-followed s e v r z ∙ to-value

      module _ {w n t : ℕ} (ended : r ≡ Ok (w, n)) (at-t : t ≡ past s w) where
        pub not-followed : is_next (get_or s t 0) ≡ false → None ≡ passed_member left room s q
        not-followed f = sym (ap (followed s e v) ended ∙ rw (← at-t, f)) ∙ to-value

        pub a-member : is_next (get_or s t 0) ≡ true
            → ◌≡◌ {A = Option Visit} (Some (record { member = record { name = e; value = v; end = w; then = t }; room = n })) (passed_member left room s q)
        a-member f = sym (ap (followed s e v) ended ∙ rw (← at-t, f)) ∙ to-value

module _ (left room : ℕ) (s : List ℕ) (q : ℕ) (h : q < length s) (quote : get_or s q 0 ≡ 34) where
  abbrev Stuck : Type 0
  Stuck = (k : Stack) → levels (obj k) ≡ left → is_end (tour s q name (obj k) room) ≡ false

  into_name : (k : Stack) → tour s q name (obj k) room ≡ tour s (q + 1) (str label) (obj k) room
  into_name k = tour-moves s q name (obj k) room false (live (str label) (obj k)) h refl (name-quote (obj k) (get_or s q 0) quote)

  name-stuck : passed s q ≡ None → Stuck
  name-stuck z k d = ap is_end (into_name k) ∙ role_stuck s q h quote z label (obj k) room

  module _ (e c : ℕ) (named : passed s q ≡ Some e) (at_c : c ≡ past s e) where
    name-found : Lands s q (behind s q) e
    name-found = string-found s q h quote named

    c-high : c ≤ length s
    c-high = omega (arith, at_c, past-inner s e (name-found.inner (omega arith)))

    to-colon : (k : Stack) → tour s q name (obj k) room ≡ tour s c colon (obj k) room
    to-colon k =
        into_name k ∙ role_passes s q h quote named label (obj k) room
        ∙ past-tour colon (obj k) (ws-colon (obj k)) (λ b w. refl) s e room ∙ ap (λ (i : ℕ). tour s i colon (obj k) room) (sym at_c)

    colon-stuck : (get_or s c 0 ≡ 58 → ⊥) → Stuck
    colon-stuck ne k d =
        ap is_end (to-colon k)
        ∙ obj-end s colon k room c c-high (λ i. colon-miss (obj k) (get_or s c 0) (ap (λ (j : ℕ). is_ws (get_or s j 0)) at_c ∙ past-ink s e (omega (arith, at_c))) ne)

    module _ (v : ℕ) (r : Toured) (colon-there : get_or s c 0 ≡ 58) (at-v : v ≡ past s (c + 1)) (is-r : r ≡ lone left room s v) where
      v_high : v ≤ length s
      v_high = omega (arith, at-v, past-inner s (c + 1) (let z = there s c 57 colon-there in omega arith))

      by_value : (k : Stack) → levels (obj k) ≡ left → tour s q name (obj k) room ≡ resume s after (obj k) r
      by_value k d =
          to-colon k
          ∙ tour-moves s c colon (obj k) room false (live value (obj k)) (there s c 57 colon-there) refl (colon-hit (obj k) (get_or s c 0) colon-there)
          ∙ past-tour value (obj k) (ws-value (obj k)) (λ b w. ap not w) s (c + 1) room
          ∙ ap (λ (i : ℕ). tour s i value (obj k) room) (sym at-v)
          ∙ tour-around s left (obj k) d v room ∙ ap (resume s after (obj k)) (sym is-r)

      value-stuck : is_end r ≡ false → Stuck
      value-stuck z k d = ap is_end (by_value k d) ∙ stuck-on s after (obj k) r z

      module _ (w n t : ℕ) (ended : r ≡ Ok (w, n)) (at-t : t ≡ past s w) where
        value-end : one left s v ≡ Ok w
        value-end = lone-ends left room s v w n (sym is-r ∙ ended)

        w_in : (v < w) × (w ≤ length s)
        w_in = one-ends left s v w v_high value-end

        t-high : t ≤ length s
        t-high = omega (arith, at-t, past-inner s w w_in.1)

        to-follow : (k : Stack) → levels (obj k) ≡ left → tour s q name (obj k) room ≡ tour s t after (obj k) n
        to-follow k d =
            by_value k d ∙ ap (resume s after (obj k)) ended
            ∙ past-tour after (obj k) (λ b g. ws-obj b g k) (λ b g. refl) s w n ∙ ap (λ (i : ℕ). tour s i after (obj k) n) (sym at-t)

        follow-stuck : is_next (get_or s t 0) ≡ false → Stuck
        follow-stuck f k d =
            let x = next-not (eqb (get_or s t 0) 44) (eqb (get_or s t 0) 125) (get_or s t 0) refl refl f in
            ap is_end (to-follow k d)
            ∙ obj-end s after k n t t-high (λ i. obj-miss k (get_or s t 0) (ap (λ (j : ℕ). is_ws (get_or s j 0)) at-t ∙ past-ink s w (omega (arith, at-t))) x.1 x.0)

        module _ (follow : is_next (get_or s t 0) ≡ true) where
          nexts : (get_or s t 0 ≡ 44) ⊎ (get_or s t 0 ≡ 125)
          nexts = next-by (eqb (get_or s t 0) 44) (eqb (get_or s t 0) 125) (get_or s t 0) refl refl follow

          t-inside : (get_or s t 0 ≡ 44) ⊎ (get_or s t 0 ≡ 125) → t < length s
          t-inside (inl f) = there s t 43 f
          t-inside (inr f) = there s t 124 f

          value-at : value_of s q ≡ v
          unfolding value_of
          value-at =
              ap (λ (x : ℕ). past s (next s (past s x))) (sym name-found.is)
              ∙ ap (λ (x : ℕ). past s (next s x)) (sym at_c) ∙ ap (past s) (next-is s c (there s c 57 colon-there)) ∙ sym at-v

          value-ends : behind s v ≡ w
          value-ends =
              let v-in : v < length s = omega (arith, w_in) in
              let ink : is_ws (get_or s v 0) ≡ false = ap (λ (x : ℕ). is_ws (get_or s x 0)) at-v ∙ past-ink s (c + 1) (omega (arith, at-v)) in
              ends_at left s v w v-in ink value-end (λ g. mark_at s w t at-t g nexts)

          member-there : PassedMember s q left room e v w t n
          unfolding follows
          member-there =
              let ve = value-at in
              let we = value-ends in
              record {
                row =
                    record {
                      named = name-found;
                      begins = record { is = sym ve; low = omega (arith, at_c, at-v, past-low s e, past-low s (c + 1)); inner = λ g. v_high };
                      ends = record { is = sym (ap (behind s) ve ∙ we); low = omega (arith, w_in.0); inner = λ g. w_in.1 };
                      goes = record { is = at-t ∙ ap (past s) (sym (ap (behind s) ve ∙ we)); low = omega (arith, at-t, past-low s w); inner = λ g. t-high };
                    };
                same = to-follow;
                inside = t-inside nexts;
                follow = nexts;
              }

  -- a member that passes, or none
  abbrev View : Option Visit → Type 0
  View (Some m) = PassedMember s q left room m.member.name m.member.value m.member.end m.member.then m.room
  View None = Stuck

  module _ (e c v : ℕ) (named : passed s q ≡ Some e) (at_c : c ≡ past s e) (at-v : v ≡ past s (c + 1)) where
    by-follow : (w n t : ℕ) → get_or s c 0 ≡ 58 → (r : Toured) → (is-r : r ≡ lone left room s v) → r ≡ Ok (w, n) → t ≡ past s w → (x : Bool)
        → is_next (get_or s t 0) ≡ x
        → View (passed_member left room s q)
    by-follow w n t b r is-r f at-t true g =
        subst View (a-member left room s q named at_c b at-v is-r f at-t g) (member-there e c named at_c v r b at-v is-r w n t f at-t g)
    by-follow w n t b r is-r f at-t false g =
        subst View (not-followed left room s q named at_c b at-v is-r f at-t g) (follow-stuck e c named at_c v r b at-v is-r w n t f at-t g)

    by_end : get_or s c 0 ≡ 58 → (r : Toured) → r ≡ lone left room s v → View (passed_member left room s q)
    by_end b (Ok (w, m)) i = by-follow w m (past s w) b (Ok (w, m)) i refl refl (is_next (get_or s (past s w) 0)) refl
    by_end b (Err f) i = subst View (no_value left room s q named at_c b at-v i refl) (value-stuck e c named at_c v (Err f) b at-v i refl)

    by-colon : Dec (get_or s c 0 ≡ 58) → View (passed_member left room s q)
    by-colon (yes b) = by_end b (lone left room s v) refl
    by-colon (no b) = subst View (no-colon left room s q named at_c b) (colon-stuck e c named at_c b)

  by_name : (x : Option ℕ) → passed s q ≡ x → View (passed_member left room s q)
  by_name None z = subst View (no_name left room s q z) (name-stuck z)
  by_name (Some e) z = by-colon e (past s e) (past s (past s e + 1)) z refl refl (ℕ_discrete (get_or s (past s e) 0) 58)

  view : View (passed_member left room s q)
  view = by_name (passed s q) refl

  -- THE LAWS, of an answer m of `pass_member`
  module _ {m : Option Visit} (is : m ≡ passed_member left room s q) where
    pub member-passed : {v : Visit} → m ≡ Some v → PassedMember s q left room v.member.name v.member.value v.member.end v.member.then v.room
    member-passed e = subst View (sym is ∙ e) view

    pub member-stuck : m ≡ None → (k : Stack) → levels (obj k) ≡ left → is_end (tour s q name (obj k) room) ≡ false
    member-stuck e = subst View (sym is ∙ e) view
