-- `still::Sight::next` meets its contract: the calls' answers, put together.
-- Where the believed codes stay, their classes are those that were merged before.
use mathlib.Core.Path.{◌≡◌, ap, sym, ◌∙◌}
use mathlib.Core.Bool.{Bool, true, ◌&&◌}
use mathlib.Core.List.{List}
use Prim.Native.Nat.{ℕ, ◌-◌, ◌<◌}
use native.Mathlib.Omega.{arith}
use lib.Dec.{eqb}
use lib.ListN.{length, get_or, take, drop, length-drop}
use lib.Seq.{take_all}
use Rattle.status.specs.Codes.{Coded}
use Rattle.lanes.specs.Support.Lanes.{lane_classes}
use Rattle.words.proofs.Laws.{same_lists}
use Rattle.steady.specs.declared.Held.{Held}
use Rattle.steady.specs.declared.News.{News}
use Rattle.steady.specs.Steady.{believed_of}
use Rattle.steady.specs.Held.{next_held}
use Rattle.steady.specs.Support.News.{news_of}
use Rattle.steady.proofs.Laws.{believed_long, believed_coded}
use Rattle.clock.specs.declared.Clock.{Clock}
use Rattle.clock.specs.declared.Turn.{Turn}
use Rattle.clock.specs.Clock.{number_of, orbit_ends}
use Rattle.clock.specs.Turn.{turned_of}
use Rattle.records.specs.Records.{codes_in}
use Rattle.still.specs.declared.Sight.{Sight}
use Rattle.still.specs.Support.Still.{due_of}
use Rattle.still.specs.Support.Sight.{sight_of}
use Rattle.still.proofs.Sight.next.Goals as goal

module _ (held : Held) (rec : List ℕ) (n : Coded (codes_in rec)) (c : Coded held.carried) (b : Coded held.believed) (news : News) (after : Held)
    (told : news ≡ news_of held.carried held.believed (codes_in rec)) (moved : after ≡ next_held held (codes_in rec)) where
  merge_asked : (table classes : List ℕ) → classes ≡ lane_classes table held.believed → (get_or after.believed 0 0 < 16) × (news.stays ≡ true → classes ≡ lane_classes table after.believed)
  unfolding news_of next_held
  merge_asked table classes before =
      let is = ap (λ (h : Held). h.believed) moved in (
        rw is (believed_coded held.carried held.believed (codes_in rec) c b n).gtfe,
        λ e.
            let same = same_lists held.believed _ 21 b.long (believed_long held.carried held.believed (codes_in rec) ∙ b.long) (sym (ap (λ (x : News). x.stays) told) ∙ e) in
            before ∙ ap (lane_classes table) (same ∙ sym is),
      )

  sight_is : (busy table slots : List ℕ) (clock : Clock) (old : Turn) (calm : Bool) (turn : Turn) (classes : List ℕ) (still ends : Bool) (number due : ℕ)
      → classes ≡ lane_classes table after.believed → ends ≡ orbit_ends clock (eqb (get_or rec 1 0) 1)
      → turn ≡ turned_of slots ends old → number ≡ number_of clock (eqb (get_or rec 1 0) 1) → still ≡ (calm && news.stays)
      → due ≡ due_of still busy number (get_or rec 2 0)
      → ◌≡◌ {A = Sight} (record { turn = turn; classes = classes; firm = news.firm; marker = eqb (get_or rec 1 0) 1; requests = get_or rec 2 0; due = due })
      (sight_of busy table slots clock old calm held.carried held.believed rec)
  unfolding sight_of news_of next_held
  sight_is busy table slots clock old calm turn classes still ends number due c e t n f d = rw (d, f, n, t, e, c, moved, told)

held_is : (held after : Held) (codes : List ℕ) → after.believed ≡ believed_of held.carried held.believed codes → after.carried ≡ codes → after ≡ next_held held codes
unfolding next_held
held_is held after codes b c = ap (λ (x : List ℕ). record { carried = after.carried; believed = x }) b ∙ ap (λ (x : List ℕ). record { carried = x; believed = believed_of held.carried held.believed codes }) c

-- what is lent of a record past its third byte
lent : (rec : List ℕ) → length rec ≡ 24 → take (length rec - 3) (drop 3 rec) ≡ codes_in rec
lent rec long = take_all (length rec - 3) (drop 3 rec) (rw length-drop (omega arith))

pub follow-news-requires : goal.follow-news-requires
follow-news-requires c =
    let p = c.requires in
    (ap length (lent c.args.rec.now p.0) ∙ p.1.long, p.5)

pub classes_of-classes-requires : goal.classes_of-classes-requires
classes_of-classes-requires c =
    let p = c.requires in
    let e = rw (lent c.args.rec.now p.0) at c.follow-news.ensures in
    merge_asked c.args.held.now c.args.rec.now p.1 p.2 p.3 _ _ e.0 (held_is _ _ _ e.1 e.2) _ _ p.4

pub returns : goal.returns
returns c =
    let a = c.args in
    let p = c.requires in
    let e = rw (lent a.rec.now p.0) at c.follow-news.ensures in
    let moved = held_is a.held.now c.follow-news.new.self _ e.1 e.2 in (
      sight_is a.held.now a.rec.now p.1 p.2 p.3 _ _ e.0 moved a.busy.now _ _ a.clock _ a.calm _ _ _ _ _ _ c.classes_of-classes.ensures c.ends_orbit.ensures
          c.turned.ensures c.number-number.ensures c.both.ensures c.due.ensures,
      moved,
    )
