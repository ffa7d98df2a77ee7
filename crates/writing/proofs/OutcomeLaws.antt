-- What a writing that is done tells: it was not refused, and its result stands at the front of the output. Assumes nothing.
use Prim.Native.Nat.{ℕ, ◌≤◌}
use Rattle.frame.specs.Edit.{added, removed}
use Rattle.json_text.specs.Places.{bytes, elements, last_of}
use Rattle.message.specs.Reading.{ample, reading}
use Rattle.message.specs.declared.facts.Message.{Message}
use Rattle.std.specs.Prelude.{Ok, Err}
use Rattle.message.specs.Refusal.{Reading}
use Rattle.octets.specs.Splice.{written}
use Rattle.octets.proofs.TestLaws.{or-none}
use Rattle.rules.specs.Date.{date_rule}
use Rattle.writing.specs.Adding.{entry, path_rule, add_to, adding}
use Rattle.writing.specs.Outcome.{Outcome, refuse, write, on_read, fitted, answered, put, output_left, Writes}
use Rattle.writing.specs.Removing.{remove_from, removing}
use Rattle.writing.specs.Reply.{reply_of, unanswered, wrong_code, reply_to, replying}
use Rattle.writing.specs.Objects.{is_ours, some, objects}
use Rattle.writing.specs.declared.answers.Refusal.TheVariants.{Path, Kind, Code, Date, Loop, Full, Few, Foreign, Long, Room}
use Rattle.writing.specs.declared.answers.Refusal.{Refusal}
use borrow.Author.Tests.{le-leb, ltb-false, eqb-true, eqb-false, not-false}
use lib.Dec.{eqb, ltb}
use lib.ListN.{length, take, drop}
use lib.Seq.{take-append_seam, drop-append_seam}
use mathlib.Core.Bool.{Bool, true, false, not, cond}
use mathlib.Core.List.{List}
use mathlib.Core.Path.{◌≡◌, refl, sym, ap, ◌∙◌}
use native.Mathlib.Omega.{arith}

-- the result w stands at the front of the output
pub record Stood (o : List ℕ) (x : Outcome) (n : ℕ) (o' : List ℕ) : Type 0 where
  pub w : List ℕ
  pub is : x ≡ write w
  pub short : length w ≤ 32768
  pub long : n ≡ length w
  pub front : take n o' ≡ w
  pub behind : drop n o' ≡ drop n o

not_done : {A : Type 0} {r : Refusal} {n : ℕ} → Err r ≡ Ok n → A
not_done e = absurd (let z : ◌≡◌ {A = ℕ} 0 1 = cc in omega arith)

fitted-done : (room : ℕ) (w : List ℕ) (n : ℕ) (a b : Bool) → ltb 32768 (length w) ≡ a → ltb room (length w) ≡ b
    → cond a (Err Long) (cond b (Err Room) (Ok (length w))) ≡ Ok n → (length w ≤ 32768) × ((length w ≤ room) × (n ≡ length w))
fitted-done room w n true b f g e = not_done e
fitted-done room w n false true f g e = not_done e
fitted-done room w n false false f g e = (ltb-false 32768 (length w) f, (ltb-false room (length w) g, (let z : length w ≡ n = cc in sym z)))

put-fits : (o w : List ℕ) → length w ≤ 32768 → length w ≤ length o → put o w ≡ written o w
unfolding put
put-fits o w h g = rw (le-leb (length w) 32768 h, le-leb (length w) (length o) g)

stood-by : (o : List ℕ) (x : Outcome) (n : ℕ) (o' : List ℕ) → Ok n ≡ answered (length o) x → o' ≡ output_left o x → Stood o x n o'
unfolding fitted written
stood-by o (refuse r) n o' e f = not_done (sym e)
stood-by o (write w) n o' e f =
    let r = fitted-done (length o) w n (ltb 32768 (length w)) (ltb (length o) (length w)) refl refl (sym e) in
    let g : o' ≡ written o w = f ∙ put-fits o w r.0 r.1.0 in
    record {
      w = w;
      is = refl;
      short = r.0;
      long = r.1.1;
      front = rw (g, r.1.1) (take-append_seam w (drop (length w) o));
      behind = rw (g, r.1.1) (drop-append_seam w (drop (length w) o));
    }

pub stood : {o : List ℕ} {x : Outcome} {n : ℕ} {o' : List ℕ} → Writes o x (Ok n) o' → Stood o x n o'
stood {o} {x} {n} {o'} h = stood-by o x n o' h.answer h.output

-- so that front is what was to be written
pub written-front : {o : List ℕ} {x : Outcome} {n : ℕ} {o' : List ℕ} → Writes o x (Ok n) o' → (x ≡ write (take n o')) × (length (take n o') ≤ 32768)
written-front h = let w = stood h in (w.is ∙ ap write (sym w.front), omega (arith, w.short, ap length w.front))

-- what is written was not refused
not_written : {A : Type 0} {r : Refusal} {w : List ℕ} → refuse r ≡ write w → A
not_written e = absurd (let z : ◌≡◌ {A = ℕ} 0 1 = cc in omega arith)

pub past_test : (b : Bool) (r : Refusal) (x : Outcome) (w : List ℕ) → cond b (refuse r) x ≡ write w → (b ≡ false) × (x ≡ write w)
past_test true r x w e = not_written e
past_test false r x w e = (refl, e)

pub was_read : (x : Reading) (f : Message → Outcome) (w : List ℕ) → on_read x f ≡ write w → (m : Message) × ((x ≡ Ok m) × (f m ≡ write w))
was_read (Err r) f w e = not_written e
was_read (Ok m) f w e = (m, (refl, e))

write-is : {v w : List ℕ} → write v ≡ write w → v ≡ w
write-is e = cc

-- a reply
pub record Replied (s : List ℕ) (code : ℕ) (date w : List ℕ) : Type 0 where
  pub m : Message
  pub read : reading ample s ≡ Ok m
  pub request : m.tag ≡ 1
  pub listed : wrong_code code m.method ≡ false
  pub day : date_rule date ≡ true
  pub is : w ≡ reply_of s m code date

asked : (m : Message) → unanswered m ≡ false → m.tag ≡ 1
unfolding unanswered
asked m e = eqb-true m.tag 1 (not-false (eqb m.tag 1) (or-none (not (eqb m.tag 1)) (eqb m.method 4) e).0)

pub was_replied : (s : List ℕ) (code : ℕ) (date w : List ℕ) → replying s code date ≡ write w → Replied s code date w
unfolding replying reply_to
was_replied s code date w e =
    let r = was_read (reading ample s) (λ m. reply_to s m code date) w e in
    let m = r.0 in
    let p₀ = past_test (unanswered m) Kind _ w r.1.1 in
    let p₁ = past_test (wrong_code code m.method) Code _ w p₀.1 in
    let p₂ = past_test (not (date_rule date)) Date _ w p₁.1 in
    record { m = m; read = r.1.0; request = asked m p₀.0; listed = p₁.0; day = not-false (date_rule date) p₂.0; is = sym (write-is p₂.1) }

-- an adding
pub record Added (s h d o w : List ℕ) : Type 0 where
  pub path : path_rule h d o ≡ true
  pub m : Message
  pub read : reading ample s ≡ Ok m
  pub request : m.tag ≡ 1
  pub new : some (is_ours h d) (objects s m.via) ≡ false
  pub few : length (elements s m.via) ≡ 16 → ⊥
  pub is : w ≡ added s m.via (entry h d o)

pub was-added : (s h d o w : List ℕ) → adding s h d o ≡ write w → Added s h d o w
unfolding adding add_to
was-added s h d o w e =
    let p₀ = past_test (not (path_rule h d o)) Path _ w e in
    let r = was_read (reading ample s) (λ m. add_to s m h d o) w p₀.1 in
    let m = r.0 in
    let p₁ = past_test (not (eqb m.tag 1)) Kind _ w r.1.1 in
    let p₂ = past_test (some (is_ours h d) (objects s m.via)) Loop _ w p₁.1 in
    let p₃ = past_test (eqb (length (elements s m.via)) 16) Full _ w p₂.1 in
    record {
      path = not-false _ p₀.0;
      m = m;
      read = r.1.0;
      request = eqb-true m.tag 1 (not-false _ p₁.0);
      new = p₂.0;
      few = eqb-false _ 16 p₃.0;
      is = sym (write-is p₃.1);
    }

-- a removing
pub record TakenOff (s h d o w : List ℕ) : Type 0 where
  pub path : path_rule h d o ≡ true
  pub m : Message
  pub read : reading ample s ≡ Ok m
  pub response : m.tag ≡ 2
  pub two : 2 ≤ length (elements s m.via)
  pub ours : is_ours h d (bytes s (last_of (elements s m.via))) ≡ true
  pub is : w ≡ removed s m.via

pub was-taken : (s h d o w : List ℕ) → removing s h d o ≡ write w → TakenOff s h d o w
unfolding removing remove_from
was-taken s h d o w e =
    let p₀ = past_test (not (path_rule h d o)) Path _ w e in
    let r = was_read (reading ample s) (λ m. remove_from s m h d) w p₀.1 in
    let m = r.0 in
    let p₁ = past_test (not (eqb m.tag 2)) Kind _ w r.1.1 in
    let p₂ = past_test (ltb (length (elements s m.via)) 2) Few _ w p₁.1 in
    let p₃ = past_test (not (is_ours h d (bytes s (last_of (elements s m.via))))) Foreign _ w p₂.1 in
    record {
      path = not-false _ p₀.0;
      m = m;
      read = r.1.0;
      response = eqb-true m.tag 2 (not-false _ p₁.0);
      two = ltb-false _ 2 p₂.0;
      ours = not-false _ p₃.0;
      is = sym (write-is p₃.1);
    }
