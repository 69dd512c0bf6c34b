-- SealLaw: what is promised of `seal`: each frame that a player made by the log of a file is written with its seal.
use Rattle.std.specs.Prelude.{◌≡◌, ◌⊎◌, ℕ, [], ◌∷◌, Ok, Err}
use Rattle.definitions.specs.Lists.{item_or}
use Rattle.line_io.specs.Files.{AreContents, Contents}
use Rattle.run_frame.specs.Frame.{EndCause}
use Rattle.run_frame.specs.Law.{Law, law_without_input}
use Rattle.run_frame.specs.Opening.{Found}
use Rattle.run_frame.specs.declared.statuses.Status.{Status}
use Rattle.key_commands.specs.Opened.{MayReadEach, Sealed, sealed_for}
use Rattle.key_commands.specs.Seal.{TellsSeals, seal_answer}
use Rattle.key_commands.specs.Words.{Sealing}

-- why it may end so: the files are refused by this status, or the command came to its end
abbrev pub seal_cause : Sealing → Contents → Status → Type 0
seal_cause s contents status = (sealed_for s contents ≡ Err status) ⊎ (Found (sealed_for s contents) × EndCause status)

abbrev pub seal_law : Sealing → Law
seal_law s = law_without_input (s.keys.session ∷ s.keys.seed ∷ s.log ∷ [])
    -- a file is read only where those before it have what is asked of them
    (λ before after calls. (contents : Contents) → AreContents contents calls → (n : ℕ) → (item_or calls n [] ≡ []) ⊎ MayReadEach s.keys.player contents n)
    (λ contents. seal_answer (sealed_for s contents))
    (seal_cause s)
    (λ contents. Found (sealed_for s contents))
    (λ contents. (sealed : Sealed) → sealed_for s contents ≡ Ok sealed → TellsSeals s.keys.player sealed)
