-- Where both tests hold the codes are those that are carried and believed, and nothing changes.
-- Else the held codes are moved on, and the believed ones are compared with those before.
use Rattle.std.proofs.Common.{◌≡◌, sym, ◌∙◌, ℕ, Bool, true, List, length, arith}
use Rattle.words.specs.Same.{same_bytes}
use Rattle.words.proofs.Laws.{same_lists}
use Rattle.steady.specs.Steady.{believed_of}
use Rattle.steady.specs.Support.News.{news_of}
use Rattle.steady.proofs.Laws.{firm, no_news}
use Rattle.steady.proofs.Held.follow.Goals as goal

module _ (carried believed codes : List ℕ) where
  untouched : length carried ≡ 21 → length codes ≡ 21 → same_bytes 21 carried codes ≡ true → believed ≡ carried
      → (record { stays = true; firm = true } ≡ news_of carried believed codes) × (believed ≡ believed_of carried believed codes) × (carried ≡ codes)
  untouched c n same on =
      let is : carried ≡ codes = same_lists carried codes 21 c n same in
      (no_news carried believed codes is on, rw (on, is) (sym (firm codes)), is)

  told : (same stays : Bool) (after : List ℕ) → same ≡ same_bytes 21 carried codes → after ≡ believed_of carried believed codes → stays ≡ same_bytes 21 believed after
      → record { stays = stays; firm = same } ≡ news_of carried believed codes
  unfolding news_of
  told same stays after s a e = rw (e, a, s)

pub returns-then-same : goal.returns-then-same
returns-then-same c =
    let s = c.args.self.now in
    untouched s.carried s.believed c.args.codes.now (omega arith) c.requires.0 (sym c.same-same.ensures.same ∙ c.if-same.true) (c.requires.1 c.if-firm.true)

pub returns : goal.returns
returns c =
    let s = c.args.self.now in
    (told s.carried s.believed c.args.codes.now _ _ _ c.same-same.ensures.same c.believe.ensures.0 c.same.ensures.same, c.believe.ensures.0, c.copy_from_slice.ensures.after)
