-- Unsents: what players lack, one after another.
use Rattle.std.proofs.Common.{◌≡◌, ℕ, ◌+◌, ◌-◌, ◌<◌, [], ◌++◌, ap, arith, refl, suc, ◌∙◌}
use Rattle.peer_core.specs.Views.{PeerState}
use Rattle.match_ends.specs.Ends.{unsent_to, unsents_text}

-- the first of these players, and the others
unsents_suc : (p : PeerState) (held : ℕ → ℕ) (q k : ℕ) → unsents_text p held q (suc k) ≡ unsent_to p held q ++ unsents_text p held (q + 1) k
unfolding unsents_text
unsents_suc p held q k = refl

pub unsents_more : (p : PeerState) (held : ℕ → ℕ) (q n : ℕ) → q < n → unsents_text p held q (n - q) ≡ unsent_to p held q ++ unsents_text p held (q + 1) (n - (q + 1))
unsents_more p held q n less =
    let k : n - q ≡ suc (n - (q + 1)) = omega arith in
    ap (unsents_text p held q) k ∙ unsents_suc p held q (n - (q + 1))

pub unsents_none : (p : PeerState) (held : ℕ → ℕ) (q : ℕ) → unsents_text p held q 0 ≡ []
unfolding unsents_text
unsents_none p held q = refl
