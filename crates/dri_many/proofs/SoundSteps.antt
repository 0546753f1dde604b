-- Each line that is allowed keeps a reading sound.
use Rattle.std.proofs.Common.{◌≡◌, ◌≢◌, ◌⊎◌, inl, inr, ℕ, ◌+◌, List, [], ◌∷◌, ◌++◌, length, Bool, true, false, not, nat_le, Option, Some, None, Result, Ok, Err, if◌then◌else◌, refl, sym, ap, ◌∙◌, subst, arith, codes, OnOk}
use Rattle.std.specs.List.{AllPairs, Contains}
use Rattle.std.specs.Str.{bytes_eq}
use Rattle.std.proofs.lemmas.Bool.{leb-false, not-false}
use Rattle.std.proofs.lemmas.List.{length-append}
use Rattle.std.proofs.lemmas.List.Elements.{All-nil, All-push}
use Rattle.std.proofs.lemmas.List.Sums.{sum_by_push}
use Rattle.dri_base.specs.declared.scene.Scene.{Scene}
use Rattle.dri_base.specs.Ranges.{IsWithin, client_numbers}
use Rattle.dri_words.specs.Lines.{◌>>=◌, or_else}
use Rattle.dri_words.specs.Parts.{parts_at}
use Rattle.dri_words.specs.declared.reason.Reason.{Reason}
use Rattle.dri_words.specs.declared.reason.Reason.TheVariants as reasons
use Rattle.dri_many.specs.declared.fault.Stop.{Stop}
use Rattle.dri_many.specs.declared.grouping.Grouping.{Grouping}
use Rattle.dri_many.specs.declared.reading.Place.{Place}
use Rattle.dri_many.specs.declared.reading.Place.TheVariants as places
use Rattle.dri_many.specs.declared.reading.Reading.{Reading}
use Rattle.dri_many.specs.Groupings.{AreGroupings, IsGrouping, current_count, least_members, most_currents, most_members}
use Rattle.dri_many.specs.Lines.{client_in, clients_in, current_form, group_form}
use Rattle.dri_many.specs.Readings.{Leads, after_current, after_group, after_line, are_new, are_there, has_number, opening, with_current, with_end, with_group}
use Rattle.dri_many.specs.Soundness.{BlockAt, IsBlock, IsSound}
use Rattle.dri_many.proofs.Counts.{as_many, group_sized}
use Rattle.dri_many.proofs.Members.{all_there, apart_new, is_listed, members_push}

-- a test that didn't refuse
passed : {A : Type 0} (b : Bool) (e : Reason) (m : Result A Reason) (y : A) → (if b then Err e else m) ≡ Ok y → (b ≡ false) × (m ≡ Ok y)
passed true e m y is = absurd (cc)
passed false e m y is = (refl, is)

-- a choice that wasn't refused
chosen : {A : Type 0} (b : Bool) (x : A) (m : Result A Reason) (y : A) → (if b then Ok x else m) ≡ Ok y → (x ≡ y) ⊎ (m ≡ Ok y)
chosen true x m y is = inl (cc)
chosen false x m y is = inr is

-- a stage that wasn't refused
came : {A B : Type 0} (reason : Reason) (o : Option A) (f : A → Result B Reason) (y : B) → (or_else reason o >>= f) ≡ Ok y → (x : A) × (o ≡ Some x) × (f x ≡ Ok y)
came reason None f y is = absurd (cc)
came reason (Some x) f y is = (x, refl, is)

-- a reading that isn't refused
abbrev fine : Reading → Result Reading Reason
fine r = Ok r

ok_same : (x y : Reading) → fine x ≡ fine y → x ≡ y
ok_same x y is = cc

-- the place alone changes
moved : (s : Scene) (r : Reading) (q : Place) → IsSound s r → BlockAt s q (record r { place = q }) → IsSound s (record r { place = q })
moved s r q sound block = record { each = sound.each; apart = sound.apart; counted = sound.counted; few = sound.few; block = block }

-- a group's block begins
begun : (s : Scene) (r : Reading) (members : List ℕ) (next : Reading) → IsWithin least_members most_members (length members) → r.group.currents ≡ [] → IsSound s r → with_group s r members ≡ Ok next → IsSound s next
unfolding with_group
begun s r members next sized none sound is =
    let first = passed (not (are_there (client_numbers s.clients) members)) reasons.Unknown _ next is in
    let second = passed (not (are_new r.groups members)) reasons.Twice _ next first.1 in
    let begins : Reading = record r { place = places.Block; group = record { members = members; currents = [] } } in
    subst (IsSound s) (ok_same begins next second.1) (record {
      each = sound.each;
      apart = sound.apart;
      counted = ap (λ (cs : List ℕ). current_count r.groups + length cs) (sym none) ∙ sound.counted;
      few = sound.few;
      block = record {
        grouping = record { sized = sized; there = all_there (client_numbers s.clients) members (not-false _ first.0); led = All-nil (Contains members) };
        apart = apart_new r.groups members sound.apart (not-false _ second.0);
      };
    })

-- a current more
led : (s : Scene) (r : Reading) (client : ℕ) (next : Reading) → r.place ≡ places.Block → IsBlock s r → IsSound s r → with_current r client ≡ Ok next → IsSound s next
unfolding with_current
led s r client next at block sound is =
    let first = passed (not (has_number client r.group.members)) reasons.Unknown _ next is in
    let second = passed (nat_le most_currents r.currents) reasons.Limit _ next first.1 in
    let more : Reading = record r { group = record r.group { currents = r.group.currents ++ client ∷ [] }; currents = r.currents + 1 } in
    let fits = leb-false most_currents r.currents second.0 in
    let listed = is_listed client r.group.members (not-false _ first.0) in
    subst (IsSound s) (ok_same more next second.1) (record {
      each = sound.each;
      apart = sound.apart;
      counted = simp length-append (omega (arith, sound.counted));
      few = omega (arith, fits);
      block = subst (λ p. BlockAt s p more) (sym at) (record {
        grouping = record { sized = block.grouping.sized; there = block.grouping.there; led = All-push (Contains r.group.members) r.group.currents client block.grouping.led listed };
        apart = block.apart;
      });
    })

-- a group's block ends
ended : (s : Scene) (r : Reading) → IsBlock s r → IsSound s r → IsSound s (with_end r)
ended s r block sound = record {
  each = All-push (IsGrouping s) r.groups r.group sound.each block.grouping;
  apart = subst (AllPairs ◌≢◌) (members_push r.groups r.group) block.apart;
  counted = omega (arith, sum_by_push (λ (g : Grouping). length g.currents) r.groups r.group, sound.counted);
  few = sound.few;
  block = refl;
}

group_line : (s : Scene) (r : Reading) (line : List ℕ) (next : Reading) → r.group.currents ≡ [] → IsSound s r → after_group s r line ≡ Ok next → IsSound s next
unfolding after_group
group_line s r line next none sound is =
    let form = came reasons.Shape (group_form (parts_at 32 line)) (λ numbers. or_else reasons.Range (clients_in numbers) >>= with_group s r) next is in
    let range = came reasons.Range (clients_in form.0) (with_group s r) next form.2 in
    let count : length range.0 ≡ length form.0 = as_many form.0 range.0 range.1 in
    begun s r range.0 next (subst (IsWithin least_members most_members) (sym count) (group_sized (parts_at 32 line) form.0 form.1)) none sound range.2

current_line : (s : Scene) (r : Reading) (line : List ℕ) (next : Reading) → r.place ≡ places.Block → IsBlock s r → IsSound s r → after_current r line ≡ Ok next → IsSound s next
unfolding after_current
current_line s r line next at block sound is =
    let form = came reasons.Shape (current_form (parts_at 32 line)) (λ number. or_else reasons.Range (client_in number) >>= with_current r) next is in
    let range = came reasons.Range (client_in form.0) (with_current r) next form.2 in
    led s r range.0 next at block sound range.2

-- a line at each place
line_step : (s : Scene) (r : Reading) (line : List ℕ) (p : Place) (next : Reading) → r.place ≡ p → IsSound s r → after_line s r line p ≡ Ok next → IsSound s next
unfolding after_line
line_step s r line places.Title next at sound is =
    let none : r.group.currents ≡ [] = subst (λ p. BlockAt s p r) at sound.block in
    elim (chosen (bytes_eq line (codes "many 1")) (record r { place = places.Groups }) (Err reasons.Shape) next is) as (λ _. IsSound s next) [
      | inl same ↦ subst (IsSound s) same (moved s r places.Groups sound none)
      | inr other ↦ absurd (cc)
    ]
line_step s r line places.Groups next at sound is =
    let none : r.group.currents ≡ [] = subst (λ p. BlockAt s p r) at sound.block in
    elim (chosen (bytes_eq line (codes "done")) (record r { place = places.End }) (after_group s r line) next is) as (λ _. IsSound s next) [
      | inl same ↦ subst (IsSound s) same (moved s r places.End sound none)
      | inr other ↦ group_line s r line next none sound other
    ]
line_step s r line places.Block next at sound is =
    let block : IsBlock s r = subst (λ p. BlockAt s p r) at sound.block in
    elim (chosen (bytes_eq line (codes "end")) (with_end r) (after_current r line) next is) as (λ _. IsSound s next) [
      | inl same ↦ subst (IsSound s) same (ended s r block sound)
      | inr other ↦ current_line s r line next at block sound other
    ]
line_step s r line places.End next at sound is = absurd (cc)

-- a line that is allowed keeps a reading sound
pub step : (s : Scene) (r new : Reading) (line : List ℕ) (result : Result (Unit {0}) Stop) → IsSound s r → Leads result (after_line s r line r.place) new → OnOk result (IsSound s new)
step s r new line (Ok x) sound is = line_step s r line r.place new refl sound is
step s r new line (Err e) sound is = tt

-- a whole text's groups are groups of the scene
pub whole : (s : Scene) (r : Reading) → IsSound s r → AreGroupings s r.groups
whole s r sound = record { each = sound.each; apart = sound.apart; few = omega (arith, sound.counted, sound.few) }

-- nothing was read yet
opens : (s : Scene) → IsSound s opening
opens s = record {
  each = All-nil (IsGrouping s);
  apart = λ i j d up below. absurd (omega (arith, below));
  counted = refl;
  few = omega arith;
  block = refl;
}

pub opens_at : (s : Scene) (r : Reading) → r ≡ opening → IsSound s r
opens_at s r is = subst (IsSound s) (sym is) (opens s)
