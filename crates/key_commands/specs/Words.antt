-- Words: what the words of the commands say.
use Rattle.std.specs.Prelude.{ℕ, List, [], ◌∷◌, Option, None, option_map}
use Rattle.text_fields.specs.Numbers.{number_of}
use Rattle.key_commands.specs.declared.words.TheConstants.{LAST_PLAYER}
use Rattle.key_commands.specs.declared.words.KeyWords.{KeyWords}
use Rattle.key_commands.specs.declared.words.SealWords.{SealWords}

-- whose keys they are
pub record Keying : Type 0 where
  -- the session's file
  pub session : List ℕ
  pub player : ℕ
  -- the file of the seed
  pub seed : List ℕ

-- what is to be sealed
pub record Sealing : Type 0 where
  pub keys : Keying
  -- the file of the player's log
  pub log : List ℕ

-- what the words say
abbrev pub keying_said : KeyWords → Keying
keying_said words = record { session = words.session.now; player = words.player; seed = words.seed.now }

abbrev pub sealing_said : SealWords → Sealing
sealing_said words = record { keys = keying_said words.keys; log = words.log.now }

-- the keys of this session's file, this player's number and this seed's file
abbrev pub keying_named : (session player seed : List ℕ) → Option Keying
keying_named session player seed =
    let named : ℕ → Keying = λ p. record { session = session; player = p; seed = seed } in option_map named (number_of LAST_PLAYER player)

-- those of the words after the name of `root`: `SESSION PLAYER SEED`
abbrev pub keying_in : List (List ℕ) → Option Keying
keying_in (session ∷ player ∷ seed ∷ []) = keying_named session player seed
keying_in words = None

-- what the words after the name of `seal` say: `SESSION PLAYER SEED LOG`
abbrev pub sealing_in : List (List ℕ) → Option Sealing
sealing_in (session ∷ player ∷ seed ∷ log ∷ []) =
    let with_log : Keying → Sealing = λ keys. record { keys = keys; log = log } in option_map with_log (keying_named session player seed)
sealing_in words = None
