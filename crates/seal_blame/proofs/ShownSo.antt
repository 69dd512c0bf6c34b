-- ShownSo: what the answer shows.
use Rattle.std.proofs.Common.{◌≡◌, ◌<◌, ◌≤◌, ◌-◌, ℕ, Bool, true, false, List, ◌++◌, None, Some, length, slice_get, refl, sym, ap, ◌∙◌, subst, arith}
use Rattle.std.specs.Prelude.{Option, IsTrue, bytes_eq, if◌then◌else◌}
use Rattle.std.proofs.lemmas.Bool.{false≢true}
use Rattle.std.proofs.lemmas.List.{append_cancel_left}
use Rattle.std.proofs.lemmas.Option.{none-some, same_Some}
use Rattle.std.proofs.lemmas.Slice.Eq.{bytes_eq-Decides}
use Rattle.plain_lemmas.proofs.Lists.{AreBytes}
use Rattle.sha2.specs.Sha256.{sha256}
use Rattle.definitions.specs.declared.frames.TurnFrame.{TurnFrame}
use Rattle.definitions.specs.World.{Game}
use Rattle.definitions.specs.Answers.{place_of}
use Rattle.definition_laws.specs.Members.{Has}
use Rattle.definition_laws.proofs.Members.{slice_get_Has}
use Rattle.commitment.specs.Spelling.{FitsFrame, frame_bytes, turn_frame_of}
use Rattle.commitment.proofs.Reading.{spelled_read}
use Rattle.seal_keys.specs.Parts.{part_of}
use Rattle.seal_keys.specs.Keys.{places, root_of, secret}
use Rattle.seal_keys.specs.Seals.{bit_of, is_valid, message}
use Rattle.seal_keys.specs.Departures.{departure, discloses}
use Rattle.seal_keys.specs.Laws.{AreTwoStrings}
use Rattle.seal_keys.specs.States.{Keys}
use Rattle.seal_keys.proofs.Departed.{departures, secrets}
use Rattle.sha2.proofs.Facts256.{length-sha256}
use Rattle.seal_keys.proofs.Roots.{bit_of-lt}
use Rattle.seal_blame.specs.Made.{AreMade}
use Rattle.seal_blame.specs.Blames.{HasOneMessage, IsNewSecret, ShowsSo, by_bit, by_value, by_path, first_bit, how_of, differing_bit}
use Rattle.seal_blame.specs.declared.how.How.{How}
use Rattle.seal_blame.proofs.Bits.{first_differs, other_bit, sha256_bytes}
use Rattle.seal_blame.proofs.NotMade.{at_its_place}

-- what is known of a frame that was not made, with a valid seal
pub record IsNewFrame (keys : Keys) (made : List TurnFrame) (f : TurnFrame) (s : List ℕ) : Type 0 where
  pub fair : AreMade keys.game keys.player made
  pub is_new : Has made f → ⊥
  pub sealed : IsTrue (is_valid keys.game (root_of keys.game keys.seed) f s)
  pub few : keys.game.turns ≤ 8192
  pub place : place_of keys.game f < places keys.game
  pub own_spelled : (own : TurnFrame) → slice_get made (place_of keys.game f) ≡ Some own → frame_bytes own ≡ frame_bytes f → own ≡ f

message_hashed : (game : Game) (f g : TurnFrame) → message game f ≡ message game g → sha256 (game.id ++ frame_bytes f) ≡ sha256 (game.id ++ frame_bytes g)
unfolding message
message_hashed game f g e = e

length-message : (game : Game) (f : TurnFrame) → length (message game f) ≡ 32
unfolding message
length-message game f = length-sha256 _

message_bytes : (game : Game) (f : TurnFrame) → AreBytes (message game f)
unfolding message
message_bytes game f = sha256_bytes _

-- frames with one spelling are the same
pub one_spelling : (f g : TurnFrame) → FitsFrame f → FitsFrame g → frame_bytes f ≡ frame_bytes g → f ≡ g
one_spelling f g a b e = same_Some f g (sym (spelled_read f a) ∙ ap turn_frame_of e ∙ spelled_read g b)

one_message : (keys : Keys) (made : List TurnFrame) (f : TurnFrame) (s : List ℕ) (own : TurnFrame) → IsNewFrame keys made f s → slice_get made (place_of keys.game f) ≡ Some own →
    message keys.game own ≡ message keys.game f → HasOneMessage keys.game made f
one_message keys made f s own is at same = record {
  own = own;
  is_made = at;
  strings = record {
    differ = λ e.
        let frames = is.own_spelled own at (append_cancel_left keys.game.id (frame_bytes own) (frame_bytes f) e) in
        is.is_new (subst (Has made) frames (slice_get_Has made (place_of keys.game f) own at));
    one_digest = message_hashed keys.game own f same;
  };
}

-- where a frame was made at the place, it differs in this bit
DiffersIn : Keys → List TurnFrame → TurnFrame → ℕ → Type 0
DiffersIn keys made f i = (own : TurnFrame) → slice_get made (place_of keys.game f) ≡ Some own → bit_of (message keys.game own) i ≡ bit_of (message keys.game f) i → ⊥

new_secret : (keys : Keys) (made : List TurnFrame) (f : TurnFrame) (s : List ℕ) (i : ℕ) → IsNewFrame keys made f s → i < 256 → DiffersIn keys made f i →
    part_of s i ≡ secret keys.seed (place_of keys.game f) i (bit_of (message keys.game f) i) → IsNewSecret keys made f s i
unfolding DiffersIn
new_secret keys made f s i is lt differs same = record {
  bit = lt;
  is_secret = same;
  is_new = λ d. differs d.frame (ap (slice_get made) (sym d.place_is) ∙ at_its_place keys.game keys.player made d.frame is.fair d.is_made) d.bit_is;
  other = λ own at. other_of (bit_of (message keys.game own) i) (bit_of (message keys.game f) i) (bit_of-lt _ i) (bit_of-lt _ i) (differs own at);
}
  where
    other_of : (a b : ℕ) → a < 2 → b < 2 → (a ≡ b → ⊥) → a ≡ 1 - b
    other_of a b x y apart = grind arith

two_values : (keys : Keys) (made : List TurnFrame) (f : TurnFrame) (s : List ℕ) (i : ℕ) → IsNewFrame keys made f s → i < 256 → departure keys.game keys.seed f s ≡ None →
    discloses keys.game keys.seed f s i ≡ false → AreTwoStrings (part_of s i) (secret keys.seed (place_of keys.game f) i (bit_of (message keys.game f) i))
two_values keys made f s i is lt none closed = record {
  differ = λ same. false≢true (sym closed ∙ (bytes_eq-Decides (part_of s i) (secret keys.seed (place_of keys.game f) i (bit_of (message keys.game f) i))).1 same);
  one_digest = secrets keys.game keys.seed f s i is.sealed none lt;
}

-- what the causes after the first show: by the path, and by the value
after_message : (keys : Keys) (made : List TurnFrame) (f : TurnFrame) (s : List ℕ) (i : ℕ) → IsNewFrame keys made f s → i < 256 → DiffersIn keys made f i →
    ShowsSo keys made f s (by_path (departure keys.game keys.seed f s) (by_value i (discloses keys.game keys.seed f s i)))
after_message keys made f s i is lt differs = way (departure keys.game keys.seed f s) refl
  where
    value : (b : Bool) → discloses keys.game keys.seed f s i ≡ b → departure keys.game keys.seed f s ≡ None → ShowsSo keys made f s (by_value i b)
    value true e none = new_secret keys made f s i is lt differs ((bytes_eq-Decides (part_of s i) (secret keys.seed (place_of keys.game f) i (bit_of (message keys.game f) i))).0 e)
    value false e none = (lt, two_values keys made f s i is lt none e)

    way : (o : Option ℕ) → departure keys.game keys.seed f s ≡ o → ShowsSo keys made f s (by_path o (by_value i (discloses keys.game keys.seed f s i)))
    way None e = value (discloses keys.game keys.seed f s i) refl e
    way (Some l) e = departures keys.game keys.seed f s l is.few is.place is.sealed e

pub shows_so : (keys : Keys) (made : List TurnFrame) (f : TurnFrame) (s : List ℕ) → IsNewFrame keys made f s → ShowsSo keys made f s (how_of keys made f s)
unfolding how_of differing_bit DiffersIn
shows_so keys made f s is = go (slice_get made (place_of keys.game f)) refl
  where
    rest : ℕ → How
    rest i = by_path (departure keys.game keys.seed f s) (by_value i (discloses keys.game keys.seed f s i))

    bits : (own : TurnFrame) (b : Bool) → slice_get made (place_of keys.game f) ≡ Some own → bytes_eq (message keys.game own) (message keys.game f) ≡ b →
        ShowsSo keys made f s (by_bit (if b then None else Some (first_bit (message keys.game own) (message keys.game f))) rest)
    bits own true at e = one_message keys made f s own is at ((bytes_eq-Decides (message keys.game own) (message keys.game f)).0 e)
    bits own false at e =
        let m : List ℕ = message keys.game f in
        let theirs : List ℕ = message keys.game own in
        let d = first_differs theirs m (length-message keys.game own) (length-message keys.game f) (message_bytes keys.game own) (message_bytes keys.game f)
        (λ same. false≢true (sym e ∙ (bytes_eq-Decides theirs m).1 same)) in
        after_message keys made f s (first_bit theirs m) is d.0
        (λ it at2 same.
        let is_own = same_Some own it (sym at ∙ at2) in
        other_bit theirs m (first_bit theirs m) d.1 (ap (λ (g : TurnFrame). bit_of (message keys.game g) (first_bit theirs m)) is_own ∙ same))

    go : (o : Option TurnFrame) → slice_get made (place_of keys.game f) ≡ o → ShowsSo keys made f s (by_bit (differing_bit keys.game o (message keys.game f)) rest)
    go None e = after_message keys made f s 0 is (omega arith) (λ own at. absurd (none-some own (sym e ∙ at)))
    go (Some own) e = bits own (bytes_eq (message keys.game own) (message keys.game f)) e refl
