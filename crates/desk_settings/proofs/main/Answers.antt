-- The standard text has 1,710 bytes, so it fits the buffer: its length is that of the settings that `standard` ensures.
use Rattle.std.proofs.Common.{◌≡◌, ℕ, length, arith, sym, ap, ◌∙◌, length-take-le}
use Rattle.settings.specs.declared.Settings.{Settings}
use Rattle.settings.specs.Standard.{standard}
use Rattle.editions.specs.Write.{text_of}
use Rattle.editions.proofs.Standard.{standard_length}
use Rattle.desk_settings.proofs.main.Goals as goal

long : (s : Settings) (n : ℕ) → s ≡ standard → n ≡ length (text_of s) → n ≡ 1710
long s n is laid = laid ∙ ap (λ (x : Settings). length (text_of x)) is ∙ standard_length

pub slice_bounds-text-end : goal.slice_bounds-text-end
slice_bounds-text-end c = omega (arith, long c.standard-s.result c.text_length-n.result c.standard-s.ensures c.text_length-n.ensures)

pub slice_bounds-write_all-end : goal.slice_bounds-write_all-end
slice_bounds-write_all-end c =
    let n = long c.standard-s.result c.text_length-n.result c.standard-s.ensures c.text_length-n.ensures in
    sym (length-take-le _ _ (omega arith))
