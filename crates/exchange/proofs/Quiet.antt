-- A refusal, a repeat and a none leave the table byte for byte as it was. By what the rule does to one record. Assumes nothing.
use Rattle.std.specs.Prelude.{Option, Some, None, Ok, Err}
use Prim.Native.Nat.{ℕ}
use Rattle.call.proofs.Soundness.{decided-still}
use Rattle.answers.specs.Answer.{Answer, is_quiet}
use Rattle.call.specs.Rule.{decided}
use Rattle.call.specs.inner.Sound.{Sound}
use Rattle.call.specs.declared.events.Event.TheVariants.{Tick}
use Rattle.call.specs.declared.records.After.TheVariants.{Same, Set, Free}
use Rattle.call.specs.declared.records.After.{After}
use Rattle.call.specs.declared.records.Outcome.{Outcome}
use Rattle.exchange.proofs.Parts.{ours}
use Rattle.exchange.proofs.Rules.{old-sound}
use Rattle.exchange.specs.Sequence.{Time}
use Rattle.keeper.proofs.FactLaws.{numbered}
use Rattle.message.proofs.Accepted.{read_named}
use Rattle.keeper.specs.Facts.{event_of}
use Rattle.keeper.specs.Keeping.{Step, table_after, call_at, taken_at, taken, agrees_at, asked_at, ticked_at, on_reading, on_message, on_tick}
use Rattle.lifting.specs.inner.Keeper as lifted
use Rattle.message.specs.Parties.{call_id_of}
use Rattle.message.specs.Reading.{reading}
use Rattle.message.specs.declared.facts.Message.{Message}
use Rattle.message.specs.Refusal.{Reading}
use Rattle.rules.specs.Texts.{call_id_rule}
use Rattle.table.proofs.LookupLaws.{found}
use Rattle.table.specs.Image.{record_at}
use Rattle.table.specs.Search.{place_named, free_place}
use Rattle.table.specs.WellFormed.{well_formed}
use borrow.Author.Tests.{ltb-false}
use lib.Dec.{ltb}
use mathlib.Core.Bool.{Bool, true, false, cond}
use mathlib.Core.List.{List}
use mathlib.Core.Path.{◌≡◌, refl, ap}
use native.Mathlib.Omega.{arith}

-- a step whose answer says that nothing changes leaves the table
pub record Quiet (t : List ℕ) (s : Step) : Type 0 where
  pub stays : is_quiet s.answer ≡ true → s.table ≡ t

either : (t : List ℕ) (b : Bool) (x y : Step) → (b ≡ true → Quiet t x) → (b ≡ false → Quiet t y) → Quiet t (cond b x y)
either t true x y p q = p refl
either t false x y p q = q refl

module _ (c : ℕ) (t : List ℕ) (g : lifted.Good (ours c) t) where
  sound-at : (id : List ℕ) (k : ℕ) → place_named id t ≡ Some k → Sound (call_at t k)
  sound-at id k p = let f = found id t k p in old-sound id (record_at t k) (g.fit k f.inside) f.passes

  kept-quiet : (k : ℕ) (o : Outcome) → (is_quiet o.answer ≡ true → o.after ≡ Same) → Quiet t (record { answer = o.answer; table = table_after t k o.after })
  kept-quiet k o f = record { stays = λ e. ap (table_after t k) (f e) }

  taken-quiet : (s : List ℕ) (m : Message) (a : Answer) (after : After) → (is_quiet a ≡ true → after ≡ Same) → Quiet t (taken t s m a after)
  taken-quiet s m a Same f = record { stays = λ e. refl }
  taken-quiet s m a (Set d) f = room (free_place t)
    where
      room : (p : Option ℕ) → Quiet t (taken_at t s m a d p)
      room (Some k) = record { stays = λ e. absurd (let z : ◌≡◌ {A = ℕ} 0 1 = (let q = f e in cc) in omega arith) }
      room None = record { stays = λ e. refl }
  taken-quiet s m a Free f = record { stays = λ e. refl }

  asked-quiet : (now : Time) (s : List ℕ) (m : Message) → reading c s ≡ Ok m → ltb 2 m.tag ≡ false
      → (p : Option ℕ) → place_named (call_id_of s m) t ≡ p → Quiet t (asked_at t now.milliseconds s m p)
  asked-quiet now s m e l (Some k) p =
      let n = read_named c s m e (ltb-false _ _ l) in
      let b = agrees_at t s m k in
      kept-quiet k (decided (Some (call_at t k)) (event_of m b) now.milliseconds)
      (decided-still (Some (call_at t k)) (event_of m b) now.milliseconds (sound-at (call_id_of s m) k p) (numbered m b n.number-low n.number-high) now.fits)
  asked-quiet now s m e l None p =
      let n = read_named c s m e (ltb-false _ _ l) in
      taken-quiet s m (decided None (event_of m false) now.milliseconds).answer (decided None (event_of m false) now.milliseconds).after
      (decided-still None (event_of m false) now.milliseconds tt (numbered m false n.number-low n.number-high) now.fits)

  read-quiet : (now : Time) (s : List ℕ) (r : Reading) → reading c s ≡ r → Quiet t (on_reading t now.milliseconds s r)
  read-quiet now s (Err r) e = record { stays = λ w. refl }
  read-quiet now s (Ok m) e =
      either t (ltb 2 m.tag) _ _ (λ w. record { stays = λ v. refl }) (λ w. asked-quiet now s m e w (place_named (call_id_of s m) t) refl)

  ticked-quiet : (now : Time) (id : List ℕ) (p : Option ℕ) → place_named id t ≡ p → Quiet t (ticked_at t now.milliseconds p)
  ticked-quiet now id (Some k) p =
      kept-quiet k (decided (Some (call_at t k)) Tick now.milliseconds) (decided-still (Some (call_at t k)) Tick now.milliseconds (sound-at id k p) tt now.fits)
  ticked-quiet now id None p = record { stays = λ e. refl }

  pub message-quiet : (now : Time) (s : List ℕ) → Quiet t (on_message c t now.milliseconds s)
  unfolding on_message
  message-quiet now s = either t (well_formed t) _ _ (λ w. read-quiet now s (reading c s) refl) (λ w. record { stays = λ v. refl })

  pub tick-quiet : (now : Time) (id : List ℕ) → Quiet t (on_tick t now.milliseconds id)
  unfolding on_tick
  tick-quiet now id =
      either t (well_formed t) _ _
      (λ w. either t (call_id_rule id) _ _ (λ v. ticked-quiet now id (place_named id t) refl) (λ v. record { stays = λ u. refl }))
      (λ w. record { stays = λ v. refl })
