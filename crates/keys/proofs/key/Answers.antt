-- `keys::key` meets its contract: the code's bytes and starts are what the table of keys computes to.
-- The checker computes the one into the other; the laws say what stands between two starts.
use Rattle.text.specs.Lines.{line_head}
use Rattle.keys.specs.Keys.{keys}
use Rattle.keys.proofs.Parts.{ordered, ends_within, is_key}
use Rattle.keys.proofs.key.Goals as goal

pub slice_bounds-result-count : goal.slice_bounds-result-count
unfolding keys line_head
slice_bounds-result-count c = ordered c.args.n c.requires

pub slice_bounds-result-start : goal.slice_bounds-result-start
unfolding keys line_head
slice_bounds-result-start c = ordered c.args.n c.requires

pub slice_bounds-result-end : goal.slice_bounds-result-end
unfolding keys line_head
slice_bounds-result-end c = ends_within c.args.n c.requires

pub returns : goal.returns
unfolding keys line_head
returns c = is_key c.args.n c.requires
