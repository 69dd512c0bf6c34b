-- RootLaw: what is promised of `root`: the root of the keys that a player has by a file's session and a seed is printed.
use Rattle.std.specs.Prelude.{◌≡◌, ◌⊎◌, ℕ, [], ◌∷◌, Ok, Err}
use Rattle.definitions.specs.Lists.{item_or}
use Rattle.line_io.specs.Files.{AreContents, Contents}
use Rattle.run_frame.specs.Frame.{EndCause}
use Rattle.run_frame.specs.Law.{Law, law_without_input}
use Rattle.run_frame.specs.Opening.{Found}
use Rattle.run_frame.specs.declared.statuses.Status.{Status}
use Rattle.key_commands.specs.Opened.{Keyed, MayReadSeed, keyed_for}
use Rattle.key_commands.specs.Root.{TellsRoot, root_answer}
use Rattle.key_commands.specs.Words.{Keying}

-- why it may end so: the files are refused by this status, or the command came to its end
abbrev pub root_cause : Keying → Contents → Status → Type 0
root_cause k contents status = (keyed_for k contents ≡ Err status) ⊎ (Found (keyed_for k contents) × EndCause status)

abbrev pub root_law : Keying → Law
root_law k = law_without_input (k.session ∷ k.seed ∷ [])
    -- the seed's file is read only where there is a session and the player is one of it
    (λ before after calls. (contents : Contents) → AreContents contents calls → (n : ℕ) → (item_or calls n [] ≡ []) ⊎ MayReadSeed k.player contents n)
    (λ contents. root_answer k.player (keyed_for k contents))
    (root_cause k)
    (λ contents. Found (keyed_for k contents))
    (λ contents. (keys : Keyed) → keyed_for k contents ≡ Ok keys → TellsRoot k.player keys (root_answer k.player (keyed_for k contents)).body)
