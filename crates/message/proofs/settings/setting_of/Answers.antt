-- `message::settings::setting_of` meets its contract. By its definition and what the callees ensure. Assumes nothing.
use Prim.Native.Nat.{ℕ}
use Rattle.message.proofs.FactLaws.{word-told}
use Rattle.message.proofs.settings.setting_of.Goals as goal
use Rattle.message.specs.Message.{setting_of, word_at}
use Rattle.rules.specs.Words.{call_modes, content_types, rescuees, services}
use Rattle.values.specs.Spans.{spelling_at}
use Rattle.values.specs.Value.{word_spelled}
use borrow.Author.Rules.{rules}
use lib.ListN.{get_or}
use mathlib.Core.Path.{◌≡◌, refl}

pub returns : goal.returns
unfolding setting_of
returns c =
    let s = c.args.s.now in
    let at = c.args.at.now in
    let content : c.number_at-content.result ≡ word_at content_types s (get_or at 9 0) =
    word-told content_types s (get_or at 9 0) c.number_at-content.ensures.none (λ ne. let h = c.number_at-content.ensures.told ne in search rules) in
    let mode : c.number_at-mode.result ≡ word_at call_modes s (get_or at 15 0) =
    word-told call_modes s (get_or at 15 0) c.number_at-mode.ensures.none (λ ne. let h = c.number_at-mode.ensures.told ne in search rules) in
    let rescued : c.number_at-rescued.result ≡ word_at rescuees s (get_or at 18 0) =
    word-told rescuees s (get_or at 18 0) c.number_at-rescued.ensures.none (λ ne. let h = c.number_at-rescued.ensures.told ne in search rules) in
    let asked : c.number_at-asked.result ≡ word_at services s (get_or at 19 0) =
    word-told services s (get_or at 19 0) c.number_at-asked.ensures.none (λ ne. let h = c.number_at-asked.ensures.told ne in search rules) in
    (rw (content, mode, rescued, asked, c.requires.0), refl)
