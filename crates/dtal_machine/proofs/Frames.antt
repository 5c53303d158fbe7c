-- The places of activations, one after the other.
use Rattle.std.proofs.Common.{◌≡◌, ◌∙◌, ap, refl, sym, arith, ℕ, zero, suc, ◌+◌, ◌-◌, ◌*◌, ◌<◌, ◌≤◌, ℤ, pos, true, false, List, [], ◌∷◌, ◌++◌, take, drop, replicate, length, append_assoc, Option, Some, None, IsSome, if◌then◌else◌}
use Rattle.std.specs.List.{slice_get, slice_set, slice_index_or}
use Rattle.std.proofs.Math.Seq.{take-append_seam, drop-append_seam}
use Rattle.std.proofs.lemmas.Bool.{lt-ltb, le-ltb}
use Rattle.std.proofs.lemmas.List.{take_all, take-append-le, drop-append-le, take-append-drop, length-take-le, length-drop, length-append, length-replicate, drop-set-add, take-set-le}
use Rattle.std.proofs.lemmas.Option.{slice_get-get_or, same_Some}
use Rattle.xan_io.specs.Outcome as how
use Rattle.dtal_code.specs.Places.{places_of}
use Rattle.dtal_code.specs.Machine.{Activation, State, On, Off, returns, moved_on}
use Rattle.dtal_code.specs.Running.{first_activation, begins}
use Rattle.dtal_code.specs.declared.limits.TheConstants.{PLACES}
use Rattle.dtal_machine.specs.declared.run.Caller.{Caller}
use Rattle.dtal_machine.specs.Stacks.{activation, callers_on}

-- ---- an activation more

pub filled : (old words mid new : List ℤ) (end len : ℕ) → mid ≡ old ++ words → length words ≤ 8 → end ≡ length old + 256 → len ≡ length mid
    → new ≡ take end mid ++ replicate (end - len) (pos 0) → new ≡ old ++ places_of words
unfolding places_of
filled old words mid new end len is few end-is len-is new-is =
    let mid-len : length mid ≡ length old + length words = ap length is ∙ length-append old words in
    let whole : take end mid ≡ mid = take_all end mid (omega arith) in
    let left : end - len ≡ 256 - length words = omega arith in
    new-is ∙ ap (λ front. front ++ replicate (end - len) (pos 0)) (whole ∙ is) ∙ ap (λ n. (old ++ words) ++ replicate n (pos 0)) left ∙ append_assoc old words (replicate (256 - length words) (pos 0))

pub frame_length : (words : List ℤ) → length words ≤ 256 → length (places_of words) ≡ 256
unfolding places_of
frame_length words few =
    let n : length (replicate (256 - length words) (pos 0)) ≡ 256 - length words = length-replicate (256 - length words) (pos 0) in
    length-append words (replicate (256 - length words) (pos 0)) ∙ (let e : length words + length (replicate (256 - length words) (pos 0)) ≡ 256 = omega arith in e)

pub callers_length : (below : List Activation) (callers : List Caller) (places : List ℤ) → length (callers_on below callers places) ≡ length below + length callers
unfolding callers_on
callers_length below [] places = omega arith
callers_length below (caller ∷ callers) places =
    callers_length (activation caller.at caller.result_to (take PLACES places) ∷ below) callers (drop PLACES places) ∙ (let e : suc (length below) + length callers ≡ length below + suc (length callers) = omega arith in e)

pub one_more : (below : List Activation) (callers : List Caller) (caller : Caller) (front top : List ℤ) → length front ≡ PLACES * length callers → length top ≡ PLACES
    → callers_on below (callers ++ caller ∷ []) (front ++ top) ≡ activation caller.at caller.result_to top ∷ callers_on below callers front
unfolding callers_on
one_more below [] caller [] top front-is top-is = ap (λ places. activation caller.at caller.result_to places ∷ below) (take_all PLACES top (omega arith))
one_more below [] caller (x ∷ front) top front-is top-is = absurd (omega arith)
one_more below (first ∷ callers) caller front top front-is top-is =
    let enough : PLACES ≤ length front = omega arith in
    let rest : length (drop PLACES front) ≡ PLACES * length callers = (let n = length-drop PLACES front in omega arith) in
    ap (λ places. callers_on (activation first.at first.result_to places ∷ below) (callers ++ caller ∷ []) (drop PLACES (front ++ top))) (take-append-le PLACES front top enough)
    ∙ ap (λ places. callers_on (activation first.at first.result_to (take PLACES front) ∷ below) (callers ++ caller ∷ []) places) (drop-append-le PLACES front top enough)
    ∙ one_more (activation first.at first.result_to (take PLACES front) ∷ below) callers caller (drop PLACES front) top rest top-is

-- places that are those of callers and of one activation
pub split_callers : (callers : List Caller) (caller : Caller) (places : List ℤ) → length places ≡ PLACES * (length callers + 1)
    → callers_on [] (callers ++ caller ∷ []) places ≡ activation caller.at caller.result_to (drop (PLACES * length callers) places) ∷ callers_on [] callers (take (PLACES * length callers) places)
split_callers callers caller places is =
    let base = PLACES * length callers in
    let enough : base ≤ length places = omega arith in
    let top-is : length (drop base places) ≡ PLACES = (let n = length-drop base places in omega arith) in
    ap (λ ps. callers_on [] (callers ++ caller ∷ []) ps) (sym (take-append-drop base places))
    ∙ one_more [] callers caller (take base places) (drop base places) (length-take-le base places enough) top-is

pub grown_top : (old new frame : List ℤ) (callers more : List Caller) (caller : Caller) → new ≡ old ++ frame → more ≡ callers ++ caller ∷ [] → length old ≡ PLACES * (length callers + 1)
    → drop (PLACES * length more) new ≡ frame
grown_top old new frame callers more caller new-is more-is old-is =
    let n : PLACES * length more ≡ length old = (let m = ap length more-is ∙ length-append callers (caller ∷ []) in omega arith) in
    ap (λ k. drop k new) n ∙ ap (drop (length old)) new-is ∙ drop-append_seam old frame

pub grown_callers : (old new frame : List ℤ) (callers more : List Caller) (caller : Caller) → new ≡ old ++ frame → more ≡ callers ++ caller ∷ [] → length old ≡ PLACES * (length callers + 1)
    → callers_on [] more (take (PLACES * length more) new) ≡ activation caller.at caller.result_to (drop (PLACES * length callers) old) ∷ callers_on [] callers (take (PLACES * length callers) old)
grown_callers old new frame callers more caller new-is more-is old-is =
    let n : PLACES * length more ≡ length old = (let m = ap length more-is ∙ length-append callers (caller ∷ []) in omega arith) in
    ap (λ k. callers_on [] more (take k new)) n ∙ ap (λ ps. callers_on [] more (take (length old) ps)) new-is ∙ ap (callers_on [] more) (take-append_seam old frame)
    ∙ ap (λ cs. callers_on [] cs old) more-is ∙ split_callers callers caller old old-is

pub begun : (state : State) (callers : List Activation) (start place : ℕ) (words : List ℤ) → length callers < state.depth
    → begins state callers (Some start) (place ∷ []) words ≡ On None (record state { activations = first_activation start words (Some place) ∷ callers })
begun state callers start place words less =
    ap (λ t. if t then On None (record state { activations = first_activation start words (Some place) ∷ callers }) else Off how.NoStore) (lt-ltb (length callers) state.depth less)

pub not_begun : (state : State) (callers : List Activation) (found : Option ℕ) (place : ℕ) (words : List ℤ) → IsSome found → state.depth ≤ length callers
    → begins state callers found (place ∷ []) words ≡ Off how.NoStore
not_begun state callers (Some start) place words some full =
    ap (λ t. if t then On None (record state { activations = first_activation start words (Some place) ∷ callers }) else Off how.NoStore) (le-ltb (length callers) state.depth full)
not_begun state callers None place words some full = absurd (let no : false ≡ true = some in cc)

pub some_within : {X : Type 0} (xs : List X) (k : ℕ) → IsSome (slice_get xs k) → k < length xs
some_within [] k some = absurd (let no : false ≡ true = some in cc)
some_within (x ∷ xs) zero some = omega arith
some_within (x ∷ xs) (suc k) some = (let less = some_within xs k some in omega arith)

-- ---- an activation less

pub dropped_below : (places new : List ℤ) (base low place : ℕ) (word : ℤ) → new ≡ slice_set (take base places) (base - PLACES + place) word → base ≡ low + PLACES
    → take low new ≡ take low (take base places)
dropped_below places new base low place word is base-is = ap (take low) is ∙ take-set-le low (take base places) (base - PLACES + place) word (omega arith)

pub dropped_top : (places new : List ℤ) (base low place : ℕ) (word : ℤ) → new ≡ slice_set (take base places) (base - PLACES + place) word → base ≡ low + PLACES
    → drop low new ≡ slice_set (drop low (take base places)) place word
dropped_top places new base low place word is base-is =
    let at : base - PLACES + place ≡ low + place = omega arith in
    ap (drop low) is ∙ ap (λ k. drop low (slice_set (take base places) k word)) at ∙ drop-set-add low (take base places) place word

pub returned : (state : State) (place : ℕ) (caller : Activation) (callers : List Activation) (word : ℤ) → place < length caller.places
    → returns state (Some place) (caller ∷ callers) word ≡ On None (record state { activations = moved_on caller (slice_set caller.places place word) ∷ callers })
returned state place caller callers word less =
    ap (λ t. if t then On None (record state { activations = moved_on caller (slice_set caller.places place word) ∷ callers }) else Off how.Stuck) (lt-ltb place (length caller.places) less)

got_behind : (places : List ℤ) (base k : ℕ) → slice_get (drop base places) k ≡ slice_get places (base + k)
got_behind places zero k = ap (slice_get places) (let e : k ≡ 0 + k = omega arith in e)
got_behind [] (suc base) k = refl
got_behind (x ∷ places) (suc base) k = got_behind places base k ∙ ap (slice_get (x ∷ places)) (let e : suc (base + k) ≡ suc base + k = omega arith in e)

pub behind_read : (places : List ℤ) (base k at : ℕ) (read word : ℤ) → at ≡ base + k → at < length places → read ≡ slice_index_or places at read → slice_get (drop base places) k ≡ Some word → read ≡ word
behind_read places base k at read word at-is less is got =
    same_Some read word (ap Some is ∙ sym (slice_get-get_or places at read less) ∙ ap (slice_get places) at-is ∙ sym (got_behind places base k) ∙ got)
