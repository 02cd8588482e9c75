-- Older text with `warn_blocks` 1 sends no trigger under warning: rule 2's low limit is then 0.
-- Such a rule lets none pass, by the windows over the whole log.
use mathlib.Core.Path.{◌≡◌, ap, ◌∙◌}
use mathlib.Core.List.{List}
use Prim.Native.Nat.{ℕ}
use borrow.Author.Tests.{eq-eqb}
use lib.Dec.{lit<}
use Rattle.laws.specs.Base.{all_b}
use Rattle.settings.specs.declared.Settings.{Settings}
use Rattle.settings.specs.Names.{after}
use Rattle.settings.proofs.Lows.{low_at}
use Rattle.editions.specs.Read.{edition_of, laid_out, warn_blocks, settled, read_text}
use Rattle.editions.proofs.RoundTrip.{accepted, numbers_are}
use Rattle.windows.proofs.Windows.{windows}
use Rattle.promises.specs.Stopped.{Stopped}

low_is_zero : (e : ℕ) (ns : List ℕ) → warn_blocks e ns ≡ 1 → after (settled e ns) 6 ≡ 0
unfolding settled all_b
low_is_zero e ns one = rw (eq-eqb _ _ one) (low_at (laid_out e ns) 6)

pub stopped : Stopped
stopped text ns log buffer done is one t =
    let a = accepted text done in
    let same = numbers_are text ns a is in
    let low : after (read_text text).settings 6 ≡ 0 =
    ap (λ (s : Settings). after s 6) (a.settings ∙ ap (settled (edition_of text)) same) ∙ low_is_zero (edition_of text) ns one in
    (windows (read_text text).settings log buffer t 1 (lit< tt)).none low
