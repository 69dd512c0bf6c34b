-- Named: the hostile players that a line names, one after another.
use Rattle.std.proofs.Common.{◌≡◌, ℕ, ◌+◌, ◌-◌, ◌<◌, List, [], ◌∷◌, Option, Some, None, ap, arith, refl, suc, sym, ◌∙◌}
use Rattle.std.specs.List.{range_with_len}
use Rattle.schedule_command.specs.Hostile.{behind_player, named_among, with_player}

-- the first of these players, and the others
pub players_more : (q n : ℕ) → q < n → range_with_len q (n - q) ≡ q ∷ range_with_len (q + 1) (n - (q + 1))
players_more q n l = let k : n - q ≡ suc (n - (q + 1)) = omega arith in ap (range_with_len q) k

-- one that is named, and one that isn't
pub named_one : (q : ℕ) (qs : List ℕ) (before : ℕ) (text rest : List ℕ) → behind_player q text ≡ Some rest → named_among (q ∷ qs) before text ≡ named_among qs (with_player before q) rest
unfolding named_among
named_one q qs before text rest e = rw e refl

pub unnamed_one : (q : ℕ) (qs : List ℕ) (before : ℕ) (text : List ℕ) → behind_player q text ≡ None → named_among (q ∷ qs) before text ≡ named_among qs before text
unfolding named_among
unnamed_one q qs before text e = rw e refl

-- none is left
pub named_none : (before : ℕ) → named_among [] before [] ≡ Some before
unfolding named_among
named_none before = refl

pub named_more : (before b : ℕ) (text : List ℕ) → named_among [] before (b ∷ text) ≡ None
unfolding named_among
named_more before b text = refl
