-- What a list of files holds, after a file was found, replaced or added.
use Rattle.std.proofs.Common.{◌≡◌, ◌≢◌, ◌<◌, ℕ, true, false, List, [], ◌∷◌, ◌++◌, Some, None, length, get_or, set, string_bytes, refl, sym, ap, ◌∙◌, arith, length-set, length-append, get_or-set_same, get_or-set_other}
use Rattle.std.proofs.lemmas.List.{get_or_push, get_or_append_left}
use Rattle.std.proofs.lemmas.Bool.{false_from_ne_true}
use Rattle.std.proofs.lemmas.Slice.Eq.{bytes_eq-Decides}
use Rattle.std.proofs.lemmas.List.Recursion.{found_at, found_nowhere, found_set_other, found_push_other}
use Rattle.snap_io.specs.Held.{Writes}
use Rattle.snap_io.specs.NamedFile.{is_named, held_by, LacksBefore, IsPlaceOf}
use Rattle.snap_io.specs.declared.named.NamedFile.{NamedFile}

-- a file that stands first under its name is what the list holds there
pub held_by-at : (name : List ℕ) (files : List NamedFile) (place : ℕ) (d : NamedFile) → IsPlaceOf name files place → held_by files name ≡ Some (get_or files place d).bytes.items
held_by-at name files place d h =
    found_at (λ xs. held_by xs name) (is_named name) (λ file. Some file.bytes.items) None refl (λ _ _. refl) files place d h.inside (λ k l. h.first k l d) (h.named d)

-- a list without the name holds nothing there
pub held_by-nowhere : (name : List ℕ) (files : List NamedFile) → LacksBefore name files (length files) → held_by files name ≡ None
held_by-nowhere name [] h = refl
held_by-nowhere name (file ∷ files) h =
    found_nowhere (λ xs. held_by xs name) (is_named name) (λ file. Some file.bytes.items) None refl (λ _ _. refl) (file ∷ files) file (λ k l. h k l file)

-- a file is not found under another name
is_named-other : (file : NamedFile) (name other : List ℕ) → string_bytes file.name ≡ name → other ≢ name → is_named other file ≡ false
is_named-other file name other same apart =
    false_from_ne_true _ (λ e. apart (sym ((bytes_eq-Decides (string_bytes file.name) other).0 e) ∙ same))

-- a file that has the name
is_named-same : (file : NamedFile) (name : List ℕ) → string_bytes file.name ≡ name → is_named name file ≡ true
is_named-same file name same = (bytes_eq-Decides (string_bytes file.name) name).1 same

-- new bytes under the name of the file that stands there
pub Writes-set : (name bytes : List ℕ) (files : List NamedFile) (place : ℕ) (file : NamedFile) → IsPlaceOf name files place → string_bytes file.name ≡ string_bytes (get_or files place file).name → file.bytes.items ≡ bytes
    → Writes name bytes (held_by files) (held_by (set files place file))
Writes-set name bytes files place file h keeps same =
    let old_name : string_bytes (get_or files place file).name ≡ name = (bytes_eq-Decides (string_bytes (get_or files place file).name) name).0 (h.named file) in
    let new_name : string_bytes file.name ≡ name = keeps ∙ old_name in
    let after = set files place file in
    let found : IsPlaceOf name after place = record {
      inside = simp length-set h.inside;
      named = λ d. let inside : place < length files = h.inside in rw get_or-set_same (is_named-same file name new_name);
      first = λ k below d. let apart : k ≢ place = omega arith in rw get_or-set_other (h.first k below d);
    } in
    let there : get_or after place file ≡ file = let inside : place < length files = h.inside in rw get_or-set_same refl in
    record {
      under = held_by-at name after place file found ∙ ap (λ (f : NamedFile). Some f.bytes.items) there ∙ ap Some same;
      others = λ other apart. found_set_other (λ xs. held_by xs other) (is_named other) (λ f. Some f.bytes.items) None refl (λ _ _. refl) files place file file
          (is_named-other (get_or files place file) name other old_name apart) (is_named-other file name other new_name apart);
    }

-- a new file at the end
pub Writes-push : (name bytes : List ℕ) (files : List NamedFile) (file : NamedFile) → LacksBefore name files (length files) → string_bytes file.name ≡ name → file.bytes.items ≡ bytes
    → Writes name bytes (held_by files) (held_by (files ++ file ∷ []))
Writes-push name bytes files file h new_name same =
    let after = files ++ file ∷ [] in
    let there : (d : NamedFile) → get_or after (length files) d ≡ file = λ d. get_or_push files file d (length files) refl in
    let found : IsPlaceOf name after (length files) = record {
      inside = omega (arith, length-append files (file ∷ []));
      named = λ d. rw there (is_named-same file name new_name);
      first = λ k below d. rw get_or_append_left (h k below d);
    } in
    record {
      under = held_by-at name after (length files) file found ∙ ap (λ (f : NamedFile). Some f.bytes.items) (there file) ∙ ap Some same;
      others = λ other apart. found_push_other (λ xs. held_by xs other) (is_named other) (λ f. Some f.bytes.items) None refl (λ _ _. refl) files file (is_named-other file name other new_name apart);
    }
