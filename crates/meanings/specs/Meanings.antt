-- The sentence of each number. Assumes nothing: these are definitions.
use Rattle.std.specs.Prelude.{List, [], ◌∷◌, ℕ, get_or}
use Rattle.meanings.specs.Codes.{codes}

-- from 0 on; a number that is not given has none
unfoldable pub sentences : List (List ℕ)
sentences =
    codes "accepted" ∷  -- 0
    codes "the sheet has under 4 bytes, or under 4 + 8n + 4p" ∷  -- 1
    codes "the sheet has more than 63 profiles" ∷  -- 2
    codes "a profile's number is 0 or listed before, its third byte is over 1 or its last is not 0" ∷  -- 3
    codes "a feature number is 0, or not above the one before" ∷  -- 4
    codes "a reserved bit of a feature's flags is not 0" ∷  -- 5
    codes "a body length is no multiple of 4" ∷  -- 6
    codes "a body offset is not the end of the body before" ∷  -- 7
    codes "the sheet does not end where the last body ends" ∷  -- 8
    codes "the command has neither 10 nor 12 bytes" ∷  -- 9
    codes "the command's first byte is not 46h" ∷  -- 10
    codes "RT 3 is reserved" ∷  -- 11
    codes "the response buffer is too short" ∷  -- 12
    codes "a reading with RT over 2" ∷  -- 13
    codes "the response has under 8 or over 65,534 bytes" ∷  -- 14
    codes "Data Length is under 4 or no multiple of 4" ∷  -- 15
    codes "more bytes than Data Length + 4 were received" ∷  -- 16
    codes "an Additional Length is no multiple of 4" ∷  -- 17
    codes "a feature number is not above the one before" ∷  -- 18
    codes "a feature is not current" ∷  -- 19
    codes "a descriptor ends beyond Data Length + 4" ∷  -- 20
    codes "a sweep with RT over 1" ∷  -- 21
    codes "a sweep with an allocation length under 8" ∷  -- 22
    codes "the response is cut and has no whole descriptor" ∷  -- 23
    codes "there is no room for the collected descriptors" ∷  -- 24
    codes "there is no room for another start" ∷  -- 25
    codes "the sweep had ended" ∷  -- 26
    codes "the response is cut after feature FFFF" ∷  -- 27
    codes "the response is cut, and shorter than was asked for" ∷  -- 28
    codes "the response is cut" ∷  -- 29
    codes "every response has to report it, and it is missing" ∷  -- 30
    codes "its body has not the length that it must have" ∷  -- 31
    codes "Persistent and Current are not both 1" ∷  -- 32
    codes "a reserved flag bit is not 0" ∷  -- 33
    codes "Persistent is 1 and Current is 0" ∷  -- 34
    codes "Persistent is 1, and feature 0003 is reported" ∷  -- 35
    codes "a reserved body bit or a pad byte is not 0" ∷  -- 36
    codes "SAO is 0 and the cue sheet length is not 0" ∷  -- 37
    codes "" ∷  -- 38
    codes "a profile number is 0" ∷  -- 39
    codes "no table for this profile" ∷  -- 40
    codes "feature 0 is missing or its flags are not 03h, header bytes 4-5 are not 0, or Current Profile is not the first current one listed" ∷  -- 41
    codes "the sheet buffer is too short" ∷  -- 42
    codes "" ∷  -- 43
    codes "a feature is Persistent and not Current" ∷  -- 44
    codes "another Current Profile than the first response had" ∷  -- 45
    codes "the sense data has not 18 bytes" ∷  -- 46
    codes "the response code is not 70h" ∷  -- 47
    codes "the box does not write such sense data" ∷  -- 48
    codes "the buffer for the mended copy is too short" ∷  -- 49
    codes "the list of changes is too short" ∷  -- 50
    codes "a list does not ascend, or has a repeat" ∷  -- 51
    codes "the sheet lacks a listed feature or profile" ∷  -- 52
    codes "the buffer for the loaded sheet is too short" ∷  -- 53
    codes "no command gives this number" ∷  -- 54
    codes "the buffer for sense data has under 18 bytes" ∷ []  -- 55

unfoldable pub sentence : ℕ → List ℕ
sentence n = get_or sentences n []
