-- The places of the clients' next commands, as a list by client number.
use Rattle.std.proofs.Common.{◌≡◌, ◌<◌, ℕ, List, sym, ◌∙◌, slice_index_or, slice_set, subst}
use Rattle.std.proofs.lemmas.List.{get_or-set_same, get_or-set_other, length-set}
use Rattle.dri_core.specs.Privates.{Private}
use Rattle.dri_core.specs.Worlds.{put}
use Rattle.dri_core.proofs.Parts.{put_keeps}
use Rattle.dri_core.proofs.Parts.{put_cases}
use Rattle.dri_shared.specs.Holdings.{ArePlacesOf}

-- a client's part changes, and its place stays
pub places_stay : (f : ℕ → Private) (c : ℕ) (p : Private) (places : List ℕ) → ArePlacesOf f places → p.place ≡ (f c).place → ArePlacesOf (put f c p) places
places_stay f c p places are same = record {
  room = are.room;
  each = λ d. put_keeps (λ n q. n < 33 → slice_index_or places n 0 ≡ q.place) f c p d (λ lt. are.each c lt ∙ sym same) (are.each d);
}

-- a client's place moves on
pub places_move : (f : ℕ → Private) (c n : ℕ) (p : Private) (places : List ℕ) → ArePlacesOf f places → c < 33 → p.place ≡ n → ArePlacesOf (put f c p) (slice_set places c n)
places_move f c n p places are lt moved = record {
  room = length-set places c n ∙ are.room;
  each = λ d. put_cases (λ k q. k < 33 → slice_index_or (slice_set places c n) k 0 ≡ q.place) f c p d
      (λ l. get_or-set_same places c n 0 (subst (λ m. c < m) (sym are.room) lt) ∙ sym moved)
      (λ other l. get_or-set_other places c d n 0 other ∙ are.each d l);
}
