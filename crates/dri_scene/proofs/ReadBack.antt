-- The printed lines, one after another, lead from the empty reading to the scene.
use Rattle.std.proofs.Common.{◌≡◌, ℕ, ◌+◌, true, false, ◌&&◌, List, [], ◌∷◌, ◌++◌, map, length, Some, Ok, refl, sym, ap, ◌∙◌, subst, codes}
use Rattle.std.specs.List.{list_all, flat_map}
use Rattle.std.proofs.lemmas.Bool.{false≢true, and_parts}
use Rattle.dri_base.specs.declared.scene.Scene.{Scene}
use Rattle.dri_words.specs.Parts.{parts_at, is_nil}
use Rattle.dri_scene.specs.declared.form.Form.{Form}
use Rattle.dri_scene.specs.declared.form.Form.TheVariants as forms
use Rattle.dri_scene.specs.declared.line.Line.{Line}
use Rattle.dri_scene.specs.declared.line.Line.TheVariants as lines
use Rattle.dri_scene.specs.declared.place.Place.{Place}
use Rattle.dri_scene.specs.declared.place.Place.TheVariants as places
use Rattle.dri_scene.specs.declared.reading.Reading.{Reading}
use Rattle.dri_scene.specs.Places.{place_after, is_end}
use Rattle.dri_scene.specs.Readings.{taken, after_words, after_bytes, up_to_done, scene_of, opening}
use Rattle.dri_words.specs.Lines.{is_passed_over}
use Rattle.dri_scene.specs.Texts.{scene_lines, scene_text}
use Rattle.dri_words.specs.Lines.{line_bytes}
use Rattle.dri_words.proofs.Splitting.{is_printed, spaced, split_words, split_lines}
use Rattle.dri_scene.proofs.PrintedLines.{IsRead, done_read}

-- a line whose words are printed, and which isn't passed over
pub record IsPlain (words : List (List ℕ)) : Type 0 where
  pub printed : is_printed words ≡ true
  pub kept : is_passed_over (spaced words) ≡ false

-- a line that is read and may stand there
pub stepped : (r : Reading) (words : List (List ℕ)) (form : Form) (line : Line) (q : Place) (next : Reading) → IsRead words form line → place_after r.place form ≡ Some q → taken r line ≡ Ok next → after_words r words ≡ Ok (record next { place = q })
unfolding after_words
stepped r words form line q next read at is = rw (read.is, at, read.ranged, is) refl

-- the same, of the line's bytes
bytes_read : (r : Reading) (words : List (List ℕ)) (next : Reading) → IsPlain words → after_words r words ≡ Ok next → after_bytes r (spaced words) ≡ Ok next
unfolding after_bytes
bytes_read r [] next plain is = absurd (false≢true plain.printed)
bytes_read r (w ∷ ws) next plain is = rw (plain.kept, split_words w ws plain.printed) is

-- lines that lead from one reading to another, before done
abbrev pub Leads_to : Reading → List (List (List ℕ)) → Reading → Type 0
Leads_to r [] q = r ≡ q
Leads_to r (words ∷ more) q = (next : Reading) × IsPlain words × (after_words r words ≡ Ok next) × (is_end next.place ≡ false) × Leads_to next more q

-- one part after another
pub leads_on : (r m q : Reading) (xs ys : List (List (List ℕ))) → Leads_to r xs m → Leads_to m ys q → Leads_to r (xs ++ ys) q
leads_on r m q [] ys first second = subst (λ (x : Reading). Leads_to x ys q) (sym first) second
leads_on r m q (x ∷ xs) ys first second = (first.0, first.1, first.2, first.3, leads_on first.0 m q xs ys first.4 second)

-- the lines that are led over are printed
printed_all : (r q : Reading) (ls : List (List (List ℕ))) → Leads_to r ls q → list_all is_printed ls ≡ true
printed_all r q [] leads = refl
printed_all r q (words ∷ more) leads = ap (λ t. t && list_all is_printed more) leads.1.printed ∙ printed_all leads.0 q more leads.4

-- where the reader stands after these lines
record Walks (n b : ℕ) (r q : Reading) (ls : List (List (List ℕ))) (rest : List (List ℕ)) : Type 0 where
  line : ℕ
  byte : ℕ
  is : up_to_done n b r (map spaced ls ++ rest) ≡ up_to_done line byte q rest

some_rest : (ls : List (List (List ℕ))) (rest : List (List ℕ)) → is_nil rest ≡ false → is_nil (map spaced ls ++ rest) ≡ false
some_rest [] rest some = some
some_rest (l ∷ ls) rest some = refl

walk : (n b : ℕ) (r q : Reading) (ls : List (List (List ℕ))) (rest : List (List ℕ)) → is_nil rest ≡ false → Leads_to r ls q → Walks n b r q ls rest
walk n b r q [] rest some leads = record { line = n; byte = b; is = ap (λ (x : Reading). up_to_done n b x rest) leads }
walk n b r q (words ∷ more) rest some leads =
    let later = walk (n + 1) (b + length (spaced words) + 1) leads.0 q more rest some leads.4 in
    record { line = later.line; byte = later.byte; is = rw (some_rest more rest some, bytes_read r words leads.0 leads.1 leads.2, leads.3) later.is }

done_plain : IsPlain (codes "done" ∷ [])
done_plain = record { printed = refl; kept = refl }

-- done, and the end of the text
last_line : (n b : ℕ) (q : Reading) → place_after q.place forms.Done ≡ Some places.End → up_to_done n b q (spaced (codes "done" ∷ []) ∷ ([] ∷ [])) ≡ Ok (record { scene = q.scene; part = record { bytes = b + 4 + 1; lines = n }; rest = [] ∷ [] })
unfolding taken
last_line n b q at = rw (bytes_read q (codes "done" ∷ []) (record q { place = places.End }) done_plain (stepped q (codes "done" ∷ []) forms.Done lines.Done places.End q done_read at refl)) refl

mapped_end : (ls : List (List (List ℕ))) (l : List (List ℕ)) → map spaced (ls ++ l ∷ []) ++ [] ∷ [] ≡ map spaced ls ++ (spaced l ∷ ([] ∷ []))
mapped_end [] l = refl
mapped_end (x ∷ xs) l = ap (λ t. spaced x ∷ t) (mapped_end xs l)

printed_end : (ls : List (List (List ℕ))) (l : List (List ℕ)) → list_all is_printed ls ≡ true → is_printed l ≡ true → list_all is_printed (ls ++ l ∷ []) ≡ true
printed_end [] l all last = ap (λ t. t && true) last
printed_end (x ∷ xs) l all last = let here = and_parts (is_printed x) (list_all is_printed xs) all in ap (λ t. t && list_all is_printed (xs ++ l ∷ [])) here.0 ∙ printed_end xs l here.1 last

-- lines that lead to a scene's last place spell the scene
pub spelled : (s : Scene) (q : Reading) (ls : List (List (List ℕ))) → scene_lines s ≡ ls ++ (codes "done" ∷ []) ∷ [] → Leads_to opening ls q → place_after q.place forms.Done ≡ Some places.End → q.scene ≡ s → scene_of (scene_text s) ≡ Ok s
unfolding scene_of scene_text
spelled s q ls are leads at same =
    let all = printed_end ls (codes "done" ∷ []) (printed_all opening q ls leads) refl in
    let split = ap (λ (x : List (List (List ℕ))). parts_at 10 (flat_map line_bytes x)) are ∙ split_lines (ls ++ (codes "done" ∷ []) ∷ []) all ∙ mapped_end ls (codes "done" ∷ []) in
    let walked = walk 1 0 opening q ls (spaced (codes "done" ∷ []) ∷ ([] ∷ [])) refl leads in
    let read = ap (up_to_done 1 0 opening) split ∙ walked.is ∙ last_line walked.line walked.byte q at in
    rw read (ap (λ (x : Scene). Ok x) same)
