-- Given: of own frames, the bytes given are those of the ones that a sync found, so these alone matter.
use Rattle.std.proofs.Common.{◌≡◌, inl, inr, ℕ, refl, sym, ap, subst, ◌∙◌, List, [], ◌∷◌, ◌++◌, append_assoc}
use Rattle.definitions.specs.declared.frames.TurnFrame.{TurnFrame}
use Rattle.definitions.specs.declared.logs.Entry.{Entry}
use Rattle.definitions.specs.Logs.{made, made_in}
use Rattle.definition_laws.proofs.Listing.{flat_map_append, slice_get_front}
use Rattle.wire_frames.specs.declared.frames.Frame.{Frame}
use Rattle.wire_frames.specs.declared.frames.Frame.TheVariants.{Hello, Turn, Want}
use Rattle.session_log.specs.Spelling.{log_bytes}
use Rattle.socket_station.specs.Items.{Item, Gave}
use Rattle.socket_lines.specs.declared.line.Line.{Line}
use Rattle.loop_rules.specs.Settings.{Setting}
use Rattle.loop_rules.specs.After.{view_of}
use Rattle.loop_rules.specs.Histories.{IsHistory}
use Rattle.loop_rules.specs.Laws.{IsOwnOf, GoesOn}
use Rattle.loop_rules.proofs.Given.{given_is_due}
use Rattle.peer_command.specs.Crashes.{GaveOf, StaysOf, NothingIsGivenUnsynced}
use Rattle.peer_command.proofs.Synced.{safe, synced_bytes, safe_grows}

made_more : (g h : List Entry) → made (g ++ h) ≡ made g ++ made h
unfolding made
made_more g h = flat_map_append made_in g h

made_none : made [] ≡ []
unfolding made
made_none = refl

own_more : (own more : List TurnFrame) (f : Frame) → IsOwnOf own f → IsOwnOf (own ++ more) f
own_more own more (Hello id q pass next) h = tt
own_more own more (Turn f) h = (h.0, slice_get_front own more h.0 f h.1)
own_more own more (Want place) h = tt

goes_more : (own more : List TurnFrame) (l : Line) (bytes : List ℕ) → GoesOn own l bytes → GoesOn (own ++ more) l bytes
goes_more own more l bytes (inl h) = inl h
goes_more own more l bytes (inr h) = inr (h.0, (h.1.0, own_more own more h.1.0 h.1.1, h.1.2))

-- what was given is of the own frames among all entries that a sync found by now
pub gave_safe : (s : Setting) (items : List Item) (more : List Entry) → IsHistory s items → GaveOf s items (made (safe (view_of s items) ++ more))
gave_safe s items more h before rest socket bytes same =
    let now = subst (IsHistory s) same h in
    let g = given_is_due s before rest socket bytes now in
    let r = safe_grows s before (Gave socket bytes ∷ rest) now in
    let v : List Entry = safe (view_of s before) in
    let all : made v ++ made (r.0 ++ more) ≡ made (safe (view_of s items) ++ more)
    = sym (made_more v (r.0 ++ more)) ∙ ap made (sym (append_assoc v r.0 more)) ∙ ap (λ (x : List Entry). made (x ++ more)) (sym r.1)
    ∙ ap (λ (x : List Item). made (safe (view_of s x) ++ more)) (sym same) in
    (g.0, g.1, subst (λ (x : List TurnFrame). GoesOn x g.0 bytes) all (goes_more (made v) (made (r.0 ++ more)) g.0 bytes g.3))

-- the own frames that might be given at some moment are the first of those among all entries that a sync found by now
pub own_stay : (s : Setting) (items : List Item) (more : List Entry) → IsHistory s items → StaysOf s items (made (safe (view_of s items) ++ more))
own_stay s items more h before rest same =
    let r = safe_grows s before rest (subst (IsHistory s) same h) in
    let v : List Entry = safe (view_of s before) in
    let all : safe (view_of s items) ++ more ≡ v ++ (r.0 ++ more)
    = ap (λ (x : List Item). safe (view_of s x) ++ more) same ∙ ap (λ (x : List Entry). x ++ more) r.1 ∙ append_assoc v r.0 more in
    (made (r.0 ++ more), ap made all ∙ made_more v (r.0 ++ more))

-- a log of no bytes has no entries
no_entries : (id : List ℕ) (me : ℕ) (es : List Entry) → log_bytes id me es ≡ [] → es ≡ []
no_entries id me [] h = refl
no_entries id me (e ∷ es) h = absurd (cc)

pub nothing_is_given_unsynced : NothingIsGivenUnsynced
nothing_is_given_unsynced s items h none =
    let empty : safe (view_of s items) ≡ [] = no_entries s.game.id s.me (safe (view_of s items)) (sym (synced_bytes s items h) ∙ none) in
    subst (GaveOf s items) (ap (λ (x : List Entry). made (x ++ [])) empty ∙ made_none) (gave_safe s items [] h)
