-- Agreeing: what one handle of seals seals, another one of the same session takes as valid.
use Rattle.std.specs.Prelude.{◌≡◌, ℕ, List, length, take}
use Rattle.lethwyrn_c.specs.Sealers.{Sealing}
use Rattle.lethwyrn_c.specs.Sealing as L

-- The calls on one handle that change it, from the one that made a player's keys, and what stands
-- behind it.
pub data SealRun (text : List ℕ) (player : ℕ) (seed : List ℕ) : Sealing → Type 0 where
  keyed : (s : Sealing) → L.HasKeys text player seed s → SealRun text player seed s
  wished : (frame : List ℕ) (room : ℕ) (s : Sealing) → SealRun text player seed s → SealRun text player seed (L.after_sealing frame room s)

-- Behind whatever calls on a handle with keys: where it seals a frame, the seal that is written is
-- valid under the root that it tells, for each handle of the session with the same text.
abbrev pub SealsAreTaken : Type 0
SealsAreTaken = (text : List ℕ) (player : ℕ) (seed : List ℕ) (s judge : Sealing) (frame out root : List ℕ) → SealRun text player seed s → L.IsJudge text judge →
    L.seal_code frame (length out) s ≡ 0 →
    L.valid_code (L.root_told s root) frame (take (L.seal_count frame (length out) s 0) (L.seal_told frame s out)) judge ≡ 0
