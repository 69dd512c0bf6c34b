use Rattle.frame_index.specs.Frames.{kept_in}
use Rattle.frame_index.proofs.Grows.{keeps_other}
use Rattle.frame_index.proofs.frames.own_entries_change_nothing.Goals as goal

pub returns : goal.returns
returns c game logs i h e index there never w = record {
  stands = λ q t. keeps_other q t logs i e h there game (kept_in index q t) (λ f is turn. never q f is) (w.stands q t);
  own = w.own;
  once = w.once;
}
