-- Order: how many commitments and reveals may stand at the beginning of a stream, and which frame is next.
use Rattle.std.specs.Prelude.{min, ◌↔◌}
use Rattle.std.proofs.Common.{arith, inl, inr, subst, sym, ℕ, ◌+◌, ◌-◌, ◌<◌, ◌∙◌, ◌≡◌, ◌≤◌, ◌⊎◌}
use Rattle.std.proofs.lemmas.Bool.{cases_lt}
use Rattle.definitions.specs.Places.{commit_place, reveal_place}
use Rattle.definitions.specs.World.{Game}
use Rattle.definitions.proofs.Streams.{commit_place-apart, commit_place-below, commit_place-fits, commit_place-once, reveal_place-below, reveal_place-fits, reveal_place-once}

-- how many commitments and reveals may stand at the beginning of a stream
pub record IsOrderly (game : Game) (c r : ℕ) : Type 0 where
  pub within : c ≤ min (r + game.ahead) game.turns
  pub turns : r ≤ game.turns
  pub least : (r ≡ 0) ⊎ (min (r + game.ahead) (game.turns + 1) ≤ c + 1)

pub commit_next : (game : Game) (c r : ℕ) → 1 ≤ game.ahead → IsOrderly game c r → c < min (r + game.ahead) game.turns → commit_place game c ≡ c + r
commit_next game c r d o h = commit_place-below game c (omega arith) ∙ go o.least
  where
    go : (r ≡ 0) ⊎ (min (r + game.ahead) (game.turns + 1) ≤ c + 1) → c + (c + 1 - game.ahead) ≡ c + r
    go (inl e) = omega arith
    go (inr e) = omega arith

pub reveal_next : (game : Game) (c r : ℕ) → 1 ≤ game.ahead → IsOrderly game c r → min (r + game.ahead) game.turns ≤ c → r < game.turns → reveal_place game r ≡ c + r
reveal_next game c r d o h k = let w = o.within in let e = reveal_place-below game r k in omega arith

pub commit_orderly : (game : Game) (c r : ℕ) → IsOrderly game c r → c < min (r + game.ahead) game.turns → IsOrderly game (c + 1) r
commit_orderly game c r o h = record { within = omega arith; turns = o.turns; least = go o.least }
  where
    go : (r ≡ 0) ⊎ (min (r + game.ahead) (game.turns + 1) ≤ c + 1) → (r ≡ 0) ⊎ (min (r + game.ahead) (game.turns + 1) ≤ c + 1 + 1)
    go (inl e) = inl e
    go (inr e) = inr (omega arith)

pub reveal_orderly : (game : Game) (c r : ℕ) → IsOrderly game c r → min (r + game.ahead) game.turns ≤ c → r < game.turns → IsOrderly game c (r + 1)
reveal_orderly game c r o h k = let w = o.within in record { within = omega arith; turns = omega arith; least = inr (omega arith) }

-- which commitment has the next place
pub commit_turn : (game : Game) (c r t : ℕ) → 1 ≤ game.ahead → IsOrderly game c r → t < game.turns → c + r ≡ commit_place game t →
    (c < min (r + game.ahead) game.turns) × (t ≡ c)
commit_turn game c r t d o lt e = go (cases_lt c (min (r + game.ahead) game.turns)) (cases_lt r game.turns)
  where
    go : (c < min (r + game.ahead) game.turns) ⊎ (min (r + game.ahead) game.turns ≤ c) → (r < game.turns) ⊎ (game.turns ≤ r) →
        (c < min (r + game.ahead) game.turns) × (t ≡ c)
    go (inl h) k = (h, commit_place-once game t c lt (omega arith) (sym e ∙ sym (commit_next game c r d o h)))
    go (inr h) (inl k) = absurd (commit_place-apart game t r d lt k (sym e ∙ sym (reveal_next game c r d o h k)))
    go (inr h) (inr k) = let fits = commit_place-fits game t d lt in absurd (omega arith)

pub reveal_turn : (game : Game) (c r t : ℕ) → 1 ≤ game.ahead → IsOrderly game c r → t < game.turns → c + r ≡ reveal_place game t →
    (min (r + game.ahead) game.turns ≤ c) × (r < game.turns) × (t ≡ r)
reveal_turn game c r t d o lt e = go (cases_lt c (min (r + game.ahead) game.turns)) (cases_lt r game.turns)
  where
    go : (c < min (r + game.ahead) game.turns) ⊎ (min (r + game.ahead) game.turns ≤ c) → (r < game.turns) ⊎ (game.turns ≤ r) →
        (min (r + game.ahead) game.turns ≤ c) × (r < game.turns) × (t ≡ r)
    go (inl h) k = absurd (commit_place-apart game c t d (omega arith) lt (commit_next game c r d o h ∙ e))
    go (inr h) (inl k) = (h, k, reveal_place-once game t r lt k (sym e ∙ sym (reveal_next game c r d o h k)))
    go (inr h) (inr k) = let fits = reveal_place-fits game t lt in absurd (omega arith)

-- a commitment is known exactly where its place is below the next
pub commit_known : (game : Game) (c r t : ℕ) → 1 ≤ game.ahead → IsOrderly game c r → t < game.turns → (t < c) ↔ (commit_place game t < c + r)
commit_known game c r t d o h = (there, back)
  where
    there : t < c → commit_place game t < c + r
    there lt = let e = commit_place-below game t h in let w = o.within in omega arith

    back : commit_place game t < c + r → t < c
    back lt = go o.least
      where
        go : (r ≡ 0) ⊎ (min (r + game.ahead) (game.turns + 1) ≤ c + 1) → t < c
        go (inl z) = let e = commit_place-below game t h in omega arith
        go (inr m) = let e = commit_place-below game t h in omega arith

-- a reveal is known exactly where its place is below the next
pub reveal_known : (game : Game) (c r t : ℕ) → 1 ≤ game.ahead → IsOrderly game c r → t < game.turns → (t < r) ↔ (reveal_place game t < c + r)
reveal_known game c r t d o h = (there, back)
  where
    there : t < r → reveal_place game t < c + r
    there lt = go o.least
      where
        go : (r ≡ 0) ⊎ (min (r + game.ahead) (game.turns + 1) ≤ c + 1) → reveal_place game t < c + r
        go (inl z) = absurd (omega arith)
        go (inr m) = let e = reveal_place-below game t h in let w = o.within in let u = o.turns in omega arith

    back : reveal_place game t < c + r → t < r
    back lt = let e = reveal_place-below game t h in let w = o.within in omega arith

pub orderly_at : (game : Game) (c r c' r' : ℕ) → c ≡ c' → r ≡ r' → IsOrderly game c r → IsOrderly game c' r'
orderly_at game c r c' r' a b o = subst (λ n. IsOrderly game n r') a (subst (λ n. IsOrderly game c n) b o)
