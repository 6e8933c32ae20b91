mod TypingCases
