-- Places: the frame at a place, and those behind it.
use Rattle.std.proofs.Common.{◌≡◌, ℕ, suc, zero, ◌+◌, ◌<◌, List, [], ◌∷◌, ◌++◌, length, take, drop, refl, ap, sym, ◌∙◌, arith, add-one, take-append-drop}
use Rattle.std.specs.Prelude.{flat_map, slice_get, option_map, unwrap_or}
use Rattle.commitment.specs.Spelling.{frame_bytes}
use Rattle.definitions.specs.declared.frames.TurnFrame.{TurnFrame}
use Rattle.definitions.specs.declared.logs.Entry.{Entry}
use Rattle.definitions.specs.Logs.{made, made_in}
use Rattle.definition_laws.proofs.Listing.{flat_map_append}
use Rattle.example_embed.specs.Sending.{made_bytes, bytes_from}

-- the bytes of the items from a place on are those of the item there and of those behind it
first_then : (due more : List TurnFrame) (place : ℕ) → place < length due →
    flat_map frame_bytes (drop place due) ≡ unwrap_or (option_map frame_bytes (slice_get (due ++ more) place)) [] ++ flat_map frame_bytes (drop (suc place) due)
first_then [] more place few = absurd (omega arith)
first_then (f ∷ due) more zero few = refl
first_then (f ∷ due) more (suc place) few = first_then due more place (omega arith)

-- what a log's first entries made stands first among what all of them made
made_split : (entries : List Entry) (stored : ℕ) → made entries ≡ made (take stored entries) ++ made (drop stored entries)
unfolding made
made_split entries stored = ap (flat_map made_in) (sym (take-append-drop stored entries)) ∙ flat_map_append made_in (take stored entries) (drop stored entries)

-- with the frame at the place, what is to come from the place on is what is to come behind it
pub next_out : (entries : List Entry) (stored place : ℕ) → place < length (made (take stored entries)) →
    bytes_from (take stored entries) place ≡ made_bytes entries place ++ bytes_from (take stored entries) (place + 1)
next_out entries stored place few =
    let bytes : List TurnFrame → List ℕ = λ fs. unwrap_or (option_map frame_bytes (slice_get fs place)) [] in
    rw (add-one place) (first_then (made (take stored entries)) (made (drop stored entries)) place few ∙
    ap (λ (b : List ℕ). b ++ bytes_from (take stored entries) (suc place)) (sym (ap bytes (made_split entries stored))))
