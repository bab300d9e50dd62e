-- The keys of an object: the decoder's test that none occurs twice, and what it says.
use Rattle.std.specs.Prelude.{true, false, ◌≡◌, refl}
use Rattle.std.proofs.lemmas.Bool.{false≢true}
use Rattle.std.proofs.Common.{sym, ◌∙◌}
use Rattle.text.specs.Order.{same_bytes, is_among, none_twice}
use Rattle.text.specs.OrderLaws.{same_bytes-equal, equal-same_bytes}
use Rattle.text.specs.CaseLaws.{by-test}
use Rattle.definition.specs.Tree.{Text, Pairs, no_pairs, pair}
use Rattle.definition.specs.Decode.{keys_of}
use Rattle.definition.specs.Within.{NoneKeyed, KeysDiffer}

-- a key is not among the others' exactly if it differs from each
not-among-keyed : (key : Text) (ps : Pairs) → is_among key (keys_of ps) ≡ false → NoneKeyed key ps
unfolding is_among keys_of
not-among-keyed key no_pairs e = tt
not-among-keyed key (pair k v others) e =
    by-test (same_bytes key k) (λ q. absurd (false≢true (sym (rw q at e)))) λ q.
    (λ same. absurd (false≢true (sym q ∙ equal-same_bytes key k same)), not-among-keyed key others (rw q at e))

keyed-not-among : (key : Text) (ps : Pairs) → NoneKeyed key ps → is_among key (keys_of ps) ≡ false
unfolding is_among keys_of
keyed-not-among key no_pairs n = refl
keyed-not-among key (pair k v others) n =
    by-test (same_bytes key k) (λ q. absurd (n.0 (same_bytes-equal key k q))) λ q. rw q (keyed-not-among key others n.1)

pub none-twice-differ : (ps : Pairs) → none_twice (keys_of ps) ≡ true → KeysDiffer ps
unfolding none_twice keys_of
none-twice-differ no_pairs e = tt
none-twice-differ (pair key v others) e =
    by-test (is_among key (keys_of others)) (λ q. absurd (false≢true (rw q at e))) λ q.
    (not-among-keyed key others q, none-twice-differ others (rw q at e))

pub differ-none-twice : (ps : Pairs) → KeysDiffer ps → none_twice (keys_of ps) ≡ true
unfolding none_twice keys_of
differ-none-twice no_pairs d = refl
differ-none-twice (pair key v others) d = rw (keyed-not-among key others d.0) (differ-none-twice others d.1)
